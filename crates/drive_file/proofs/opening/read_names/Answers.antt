use Rattle.drive_file.specs.Opening.{IsReading}
use Rattle.drive_file.proofs.AskLemmas.{asked_after}
use Rattle.drive_file.proofs.opening.read_names.Goals as goal

pub loop-preserved : goal.loop-preserved
loop-preserved g c =
    asked_after (IsReading c.args.folder.now) (g.F.Folder.calls c.args.system.now) (g.F.Folder.calls c.loop.system) (g.F.Folder.calls c.read_group.new.system)
    c.loop.invariant c.read_group.ensures.only

pub returns-in_err-read_group : goal.returns-in_err-read_group
returns-in_err-read_group g c = record {
  only = asked_after (IsReading c.args.folder.now) (g.F.Folder.calls c.args.system.now) (g.F.Folder.calls c.loop.system) (g.F.Folder.calls c.read_group.new.system)
      c.loop.invariant c.read_group.ensures.only;
}
