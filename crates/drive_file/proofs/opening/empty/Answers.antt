use Rattle.std.proofs.Common.{ap, map, string_bytes}
use Rattle.drive_base.specs.Trail.{listed}
use Rattle.drive_file.specs.Opening.{IsEmptying}
use Rattle.drive_file.proofs.AskLemmas.{asked_after}
use Rattle.drive_file.proofs.OpeningLemmas.{emptied_all, loose_listed}
use Rattle.drive_file.proofs.opening.empty.Goals as goal

pub returns-in_err-entries-clause-only : goal.returns-in_err-entries-clause-only
returns-in_err-entries-clause-only g c =
    loose_listed c.args.loose.now (listed c.list.result) (g.F.Folder.calls c.args.system.now) (g.F.Folder.calls c.list.new.self) c.list.ensures.calls

pub returns-clause-all : goal.returns-clause-all
returns-clause-all g c =
    emptied_all c.clear_all.result c.args.loose.now (map string_bytes c.as_slice.result.now) (map string_bytes c.in_ok-entries.entries.items)
    (g.F.Folder.calls c.args.system.now) (g.F.Folder.calls c.list.new.self) (g.F.Folder.calls c.clear_all.new.system)
    c.in_ok-entries.ensures.calls (ap (map string_bytes) c.as_slice.ensures.value) c.clear_all.ensures.all

pub returns-clause-only : goal.returns-clause-only
returns-clause-only g c =
    asked_after (IsEmptying c.args.loose.now) (g.F.Folder.calls c.args.system.now) (g.F.Folder.calls c.list.new.self) (g.F.Folder.calls c.clear_all.new.system)
    (loose_listed c.args.loose.now (listed c.list.result) (g.F.Folder.calls c.args.system.now) (g.F.Folder.calls c.list.new.self) c.list.ensures.calls)
    c.clear_all.ensures.only
