use Rattle.std.proofs.Common.{◌≡◌, ◌+◌, ◌<◌, ◌≤◌, ℕ, length, slice_index_or}
use Rattle.std.specs.Prelude.{vec_capacity, vec_len}
use Rattle.slot_core.specs.declared.slot.SlotParts.{SlotParts}
use Rattle.store_shared.specs.Opening.{OpensBehind}
use Rattle.store_shared.proofs.opening.open_rest.Given as goal

-- the slots behind those that are left are open, there is room for the others, and their lanes are as many as the set has drives
abbrev pub invariant-loop-alloc : goal.invariant-loop-alloc
invariant-loop-alloc g l = let A = g.A.Audit in record {
  behind : OpensBehind A.entries A.count l.set l.term l.initial.left.items l.left.items l.slots.items;
  few : vec_len l.left ≤ 64;
  room : vec_len l.slots + vec_len l.left ≤ vec_capacity l.slots;
  lanes : (k : ℕ) (d : SlotParts g.row.D.Denot g.row.A.Denot) → k < length l.left.items → length (slice_index_or l.left.items k d).lanes.items ≡ l.set.drives;
}

abbrev pub decreases-loop-alloc : goal.decreases-loop-alloc
decreases-loop-alloc g l = vec_len l.left
