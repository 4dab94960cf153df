use Rattle.std.proofs.Common.{◌≡◌, ◌+◌, ◌≤◌, ℕ}
use Rattle.std.specs.Prelude.{vec_capacity, vec_len}
use Rattle.store_shared.proofs.ShutLemmas.{MovesSome}
use Rattle.store_shared.proofs.closing.move_each.Given as goal

-- some parts were moved, and there is room for the others
abbrev pub invariant-loop-parts : goal.invariant-loop-parts
invariant-loop-parts g l = record {
  moves : MovesSome l.initial.left.items l.left.items l.initial.home.items l.home.items;
  room : vec_len l.home + vec_len l.left ≤ vec_capacity l.home;
  counted : vec_len l.home + vec_len l.left ≡ vec_len l.initial.home + vec_len l.initial.left;
  capacity : vec_capacity l.home ≡ vec_capacity l.initial.home;
}

abbrev pub decreases-loop-parts : goal.decreases-loop-parts
decreases-loop-parts g l = vec_len l.left
