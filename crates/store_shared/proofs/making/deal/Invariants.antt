use Rattle.std.proofs.Common.{◌≡◌, ◌≤◌, ◌+◌, ◌++◌}
use Rattle.std.specs.Prelude.{vec_capacity, vec_len}
use Rattle.store_shared.specs.Making.{AreFirst, AreFresh, unlocked}
use Rattle.store_shared.specs.Turned.{made_slots}
use Rattle.store_shared.proofs.making.deal.Given as goal

-- the locks that are dealt, with their first passes, and the others are all of them, and there is room
abbrev pub invariant-loop-lock : goal.invariant-loop-lock
invariant-loop-lock g l = record {
  slots : made_slots l.locks.items ++ unlocked l.fresh.items ≡ unlocked l.initial.fresh.items;
  first : AreFirst l.locks.items l.passes.items;
  fresh : AreFresh l.fresh.items;
  room : vec_len l.locks + vec_len l.fresh ≤ vec_capacity l.locks;
  room_too : vec_len l.passes + vec_len l.fresh ≤ vec_capacity l.passes;
}

abbrev pub decreases-loop-lock : goal.decreases-loop-lock
decreases-loop-lock g l = vec_len l.fresh
