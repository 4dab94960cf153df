use Rattle.std.proofs.Common.{◌≤◌}
use Rattle.std.specs.Prelude.{vec_capacity, vec_len}
use Rattle.store_shared.proofs.ClosingLemmas.{ClosedSoFar}
use Rattle.store_shared.proofs.closing.close_all.Given as goal

-- some locks are closed, the last ones, and there is room for all slots
abbrev pub invariant-loop-lock : goal.invariant-loop-lock
invariant-loop-lock g l = record {
  closed : ClosedSoFar l.initial.locks.items l.initial.passes.items l.locks.items l.passes.items l.slots.items;
  room : 64 ≤ vec_capacity l.slots;
}

abbrev pub decreases-loop-lock : goal.decreases-loop-lock
decreases-loop-lock g l = vec_len l.locks
