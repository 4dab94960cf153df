use Rattle.drive_base.specs.View.{view}
use Rattle.get_read.proofs.CallLemmas.{size_called}
use Rattle.get_read.proofs.calls.call_size.Goals as goal

pub returns-clause-called : goal.returns-clause-called
returns-clause-called g c =
    let is = c.size_on.ensures in
    size_called c.args.kind c.args.name.now c.size_on.result is.called.0 (view g.D.Drive c.args.drive.now) (view g.D.Drive c.size_on.new.drive)
    is.called.1 is.called.2 is.cause is.once
