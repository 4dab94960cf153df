use Rattle.std.proofs.Common.{◌≡◌, ◌++◌, map}
use Rattle.std.specs.List.{concat, range_with_len}
use Rattle.drive_base.specs.Plan.{data_drives}
use Rattle.put_stage.specs.Windows.{data_run}
use Rattle.put_stage.proofs.windows.add_data.Given as goal

-- the blocks of the drives so far are added
abbrev pub invariant-loop-drive : goal.invariant-loop-drive
invariant-loop-drive l = l.into.items
    ≡ l.initial.into.items ++ concat (map (λ k. concat (data_run (data_drives l.set.drives l.set.parity) l.count l.bytes k)) (range_with_len 0 l.drive))
