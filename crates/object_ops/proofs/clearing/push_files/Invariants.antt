use Rattle.std.proofs.Common.{◌≡◌, ◌++◌}
use Rattle.object_ops.specs.Clearing.{drives_below, files_of, of_drives}
use Rattle.object_ops.proofs.clearing.push_files.Given as goal

-- the files on the drives so far were added
abbrev pub invariant-loop-drive : goal.invariant-loop-drive
invariant-loop-drive l = files_of l.removals.items ≡ files_of l.initial.removals.items ++ of_drives l.id l.kind (drives_below l.set l.drive)
