use Rattle.std.proofs.Common.{◌≡◌, ◌≤◌}
use Rattle.turn_lock.specs.Views.{looked}
use Rattle.turn_lock.proofs.lock.TurnLock.draw.Given as goal

abbrev pub invariant-loop : goal.invariant-loop
invariant-loop g l =
    ((goal.iterator-loop g).can_next l.iterator' × (goal.iterator-loop g).is_finite l.iterator')
    × (l.seat.table_id ≡ l.initial.seat.table_id)
    × (looked 0 l.seat.me.0 ≡ looked 0 l.initial.seat.me.0) × (l.seat.me.1 ≡ l.initial.seat.me.1)
    × (l.initial.seat.me.0.looked ≤ l.seat.me.0.looked)
