use Rattle.std.proofs.Common.{◌≡◌, take}
use Rattle.object_ops.specs.Clearing.{files_of, removal_order}
use Rattle.object_ops.proofs.clearing.plan_removals.Given as goal

-- the removals of the ids so far are planned
abbrev pub invariant-loop-id : goal.invariant-loop-id
invariant-loop-id l = files_of l.removals.items ≡ removal_order l.set l.slot (take l.id-index l.ids)
