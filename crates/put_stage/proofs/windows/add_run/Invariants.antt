use Rattle.std.proofs.Common.{◌≡◌, ◌++◌}
use Rattle.std.specs.List.{concat}
use Rattle.drive_base.specs.Plan.{data_drives}
use Rattle.put_stage.specs.Windows.{data_run}
use Rattle.put_stage.proofs.windows.add_run.Given as goal

-- the blocks of the stripes so far are added
abbrev pub invariant-loop-number : goal.invariant-loop-number
invariant-loop-number l = l.into.items ≡ l.initial.into.items ++ concat (data_run (data_drives l.set.drives l.set.parity) l.number l.bytes l.drive)
