use Rattle.std.proofs.Common.{◌+◌, ◌≤◌, ℕ}
use Rattle.std.specs.Prelude.{vec_capacity, vec_len}
use Rattle.store_shared.proofs.ShutLemmas.{ClosesSome}
use Rattle.store_shared.proofs.closing.close_each.Given as goal

-- some slots were closed, and there is room for what the others give back
abbrev pub invariant-loop-slot : goal.invariant-loop-slot
invariant-loop-slot g l = record {
  closes : ClosesSome l.initial.slots.items l.slots.items l.initial.home.items l.home.items;
  room : vec_len l.home + vec_len l.slots ≤ vec_capacity l.home;
}

abbrev pub decreases-loop-slot : goal.decreases-loop-slot
decreases-loop-slot g l = vec_len l.slots
