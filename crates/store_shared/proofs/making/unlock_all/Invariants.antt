use Rattle.std.proofs.Common.{◌≡◌, ◌≤◌, ◌+◌, ◌++◌}
use Rattle.std.specs.Prelude.{vec_capacity, vec_len}
use Rattle.store_shared.specs.Making.{AreFresh, unlocked}
use Rattle.store_shared.proofs.making.unlock_all.Given as goal

-- the slots that are out and those behind the other locks are all of them, and there is room
abbrev pub invariant-loop-lock : goal.invariant-loop-lock
invariant-loop-lock g l = record {
  slots : l.slots.items ++ unlocked l.fresh.items ≡ l.initial.slots.items ++ unlocked l.initial.fresh.items;
  fresh : AreFresh l.fresh.items;
  room : vec_len l.slots + vec_len l.fresh ≤ vec_capacity l.slots;
}

abbrev pub decreases-loop-lock : goal.decreases-loop-lock
decreases-loop-lock g l = vec_len l.fresh
