use Rattle.std.proofs.Common.{◌≡◌, ◌≤◌, ◌+◌, ◌++◌}
use Rattle.std.specs.Prelude.{vec_capacity, vec_len}
use Rattle.store_shared.specs.Making.{AreFresh, unlocked}
use Rattle.store_shared.proofs.making.lock_all.Given as goal

-- the slots that are left and those behind locks are all of them, and there is room for a lock of each
abbrev pub invariant-loop-slot : goal.invariant-loop-slot
invariant-loop-slot g l = record {
  slots : l.slots.items ++ unlocked l.fresh.items ≡ l.initial.slots.items;
  fresh : AreFresh l.fresh.items;
  room : vec_len l.slots + vec_len l.fresh ≤ vec_capacity l.fresh;
  few : vec_len l.slots + vec_len l.fresh ≤ vec_capacity l.slots;
  capacity : vec_capacity l.slots ≡ vec_capacity l.initial.slots;
}

abbrev pub decreases-loop-slot : goal.decreases-loop-slot
decreases-loop-slot g l = vec_len l.slots
