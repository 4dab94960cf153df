-- The blocks of one drive more.
use Rattle.std.proofs.Common.{ℕ}
use Rattle.std.specs.List.{concat}
use Rattle.drive_base.specs.Plan.{data_drives}
use Rattle.put_stage.specs.Windows.{data_run}
use Rattle.put_stage.proofs.RunLemmas.{runs_more}
use Rattle.put_stage.proofs.windows.add_data.Goals as goal

pub loop-drive-preserved : goal.loop-drive-preserved
loop-drive-preserved c =
    runs_more (λ (k : ℕ). concat (data_run (data_drives c.args.set.now.drives c.args.set.now.parity) c.args.count c.args.bytes.now k)) c.loop-drive.drive
    c.args.into.now.items c.loop-drive.into.items c.add_run.new.into.items c.loop-drive.invariant c.in_ok-add_run.ensures
