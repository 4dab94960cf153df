use Rattle.std.proofs.Common.{map, string_bytes}
use Rattle.drive_file.proofs.AskLemmas.{placing_made, placing_moved, placing_synced}
use Rattle.drive_file.proofs.folders.place.Goals as goal

pub returns-in_err-first-clause-only : goal.returns-in_err-first-clause-only
returns-in_err-first-clause-only g c =
    placing_made c.args.top.now (map string_bytes c.args.inner.now) c.args.from.now c.args.to.now
    (g.F.Folder.calls c.args.system.now) (g.F.Folder.calls c.make.new.system) c.make.ensures.only

pub returns-in_err-rename-clause-only : goal.returns-in_err-rename-clause-only
returns-in_err-rename-clause-only g c =
    placing_moved c.args.top.now (map string_bytes c.args.inner.now) c.args.from.now c.args.to.now c.rename.result
    (g.F.Folder.calls c.args.system.now) (g.F.Folder.calls c.make.new.system) (g.F.Folder.calls c.rename.new.self) c.make.ensures.only c.rename.ensures.calls

pub returns-clause-only : goal.returns-clause-only
returns-clause-only g c =
    placing_synced c.args.top.now (map string_bytes c.args.inner.now) c.args.from.now c.args.to.now c.rename.result
    (g.F.Folder.calls c.args.system.now) (g.F.Folder.calls c.make.new.system) (g.F.Folder.calls c.rename.new.self) (g.F.Folder.calls c.sync_from.new.system)
    c.make.ensures.only c.rename.ensures.calls c.sync_from.ensures.only
