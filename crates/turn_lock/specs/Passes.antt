-- What contracts say of a lock, of its passes and of who has its value.
use Rattle.std.specs.Prelude.{◌≡◌, ℕ, Bool, List, [], ◌∷◌, ◌++◌, Option, Some, ◌==◌}
use Rattle.atomic_table.specs.Seated.{TableId}
use Rattle.turn_lock.specs.History.{tickets}
use Rattle.turn_lock.specs.declared.pass.Pass.{Pass}
use Rattle.turn_lock.specs.declared.pass.Held.{Held}
use Rattle.turn_lock.specs.declared.lock.TurnLock.{TurnLock}
use Rattle.turn_lock.specs.declared.view.Turn.{Turn}
use Rattle.turn_lock.specs.Tickets.{last_ticket}

module _ {T : Type 0} where
  -- which lock it is
  abbrev pub lock_id : TurnLock T → TableId
  lock_id lock = lock.table.shared.table_id

  -- the value that a lock was made with, whose name is the lock's
  abbrev pub made_with : TurnLock T → T
  made_with lock = lock.table.shared.key.value

  -- which lock a pass is of, and the value that this lock was made with
  abbrev pub lock_of : Pass T → TableId
  lock_of pass = pass.seat.table_id

  abbrev pub made_of : Pass T → Option T
  made_of pass = pass.seat.me.0.of

  -- its parts of the right to close the lock
  abbrev pub parts_of : Pass T → ℕ
  parts_of pass = pass.parts

  -- how many turns of the value it has seen
  abbrev pub seen_by : Pass T → ℕ
  seen_by pass = pass.seen

  -- whether it found the next ticket at the last value of its word, where it stays
  abbrev pub is_spent : Pass T → Bool
  is_spent pass = pass.looked == last_ticket

  -- the turns that it made, and those of the passes that it was joined with
  abbrev pub turns_of : Pass T → List (Turn T)
  turns_of pass = pass.seat.me.0.done

  -- the tickets that it drew, which are those of its turns
  abbrev pub drawn_by : Pass T → List ℕ
  drawn_by pass = tickets (turns_of pass)

  abbrev pub IsPassOf : TurnLock T → Pass T → Type 0
  IsPassOf lock pass = (lock_of pass ≡ lock_id lock) × (made_of pass ≡ Some (made_with lock))

  -- the same of a value that is out, and of the pass that has it
  abbrev pub ticket_of : Held T → ℕ
  ticket_of held = held.ticket

  abbrev pub parts_held : Held T → ℕ
  parts_held held = held.parts

  -- the turns that the pass made before this one
  abbrev pub turns_so_far : Held T → List (Turn T)
  turns_so_far held = held.seat.me.0.done

  -- the tickets that it drew, this turn's among them
  abbrev pub drawn_so_far : Held T → List ℕ
  drawn_so_far held = tickets (turns_so_far held) ++ ticket_of held ∷ []

  -- the value as it went out
  abbrev pub lent_to : Held T → T
  lent_to held = held.lent.value

  -- the turn that is made where the value comes back as it is
  abbrev pub this_turn : Held T → Turn T
  this_turn held = record { ticket = ticket_of held; from = lent_to held; to = held.value }

  abbrev pub IsHeldOf : TurnLock T → Held T → Type 0
  IsHeldOf lock held = (held.seat.table_id ≡ lock_id lock) × (held.seat.me.0.of ≡ Some (made_with lock))
