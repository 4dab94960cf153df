-- What each step tells its pass: of the step, the pass before, the number found (or stored) and the pass after.
use Rattle.std.specs.Prelude.{◌≡◌, ◌≢◌, ℕ, ◌<◌, ◌≤◌, ◌∷◌, Option, Some, IfSome}
use Rattle.atomic_table.specs.Table.{Me, Step, rest}
use Rattle.turn_lock.specs.History.{tickets}
use Rattle.turn_lock.specs.Tickets.{times, last_ticket}
use Rattle.turn_lock.specs.Views.{looked, drew, lending, rested}
use Rattle.turn_lock.specs.declared.view.Turn.{Turn}
use Rattle.turn_lock.specs.declared.view.View.{View}
use Rattle.turn_lock.specs.declared.lock.TheConstants.{ALL_PARTS}

-- a pass's view, and what it has of the slot
abbrev pub Mine : Type 0 → Type 0
Mine T = Me (Option T) (View T)

module _ {T : Type 0} where
  -- a ticket was looked for, found and drawn. It isn't the last number
  abbrev pub DrewTicket : Mine T → ℕ → Mine T → Type 0
  DrewTicket m ticket n =
      (n ≡ (drew ticket (looked ticket m.0), m.1)) × (m.0.seen ≤ ticket) × (m.0.looked ≤ ticket) × (times ticket (tickets m.0.done) ≡ 0) × (ticket < last_ticket)

  -- a look at the next ticket, which never falls
  abbrev pub Looks : Step (Option T) → Mine T → ℕ → Mine T → Type 0
  Looks st m r n = (n ≡ (looked r m.0, m.1)) × (m.0.looked ≤ r)

  -- a draw, which found the ticket or changed nothing. The ticket isn't below what the pass has seen, and is that of none of its turns
  abbrev pub Draws : Step (Option T) → Mine T → ℕ → Mine T → Type 0
  Draws st m r n = (r ≡ st.first → (n ≡ (drew st.first m.0, m.1)) × (m.0.seen ≤ st.first) × (times st.first (tickets m.0.done) ≡ 0)) × (r ≢ st.first → n ≡ m)

  -- the number of parts is at most that of all
  abbrev pub Weighs : Step (Option T) → Mine T → ℕ → Mine T → Type 0
  Weighs st m r n = (n ≡ m) × (m.0.parts ≤ ALL_PARTS)

  -- a turn's end: it led from the value that was lent to the one that comes back
  abbrev pub Advances : Step (Option T) → Mine T → ℕ → Mine T → Type 0
  Advances st m r n = (t : Turn T) → m.0.ticket ≡ Some t.ticket → m.0.lent ≡ Some t.from → m.1 ≡ (0, Some t.to) ∷ rest m.1 → n ≡ (rested st.first t m.0, rest m.1)

module _ {T N : Type 0} (turn : T → ℕ) (name : T → N) where
  -- the slot is out with the pass, and has a value with this name and so many turns
  abbrev pub Lends : Option T → ℕ → Mine T → Mine T → Type 0
  Lends of serving m n = (value : T) × (n ≡ (lending value m.0, (0, Some value) ∷ m.1)) × (turn value ≡ serving) × IfSome of (λ (o : T). name value ≡ name o)

  -- a look at the ticket whose turn it is: where it is the pass's own, the pass has the slot
  abbrev pub Serves : Step (Option T) → Mine T → ℕ → Mine T → Type 0
  Serves st m r n = (m.0.ticket ≡ Some r → Lends m.0.of r m n) × (m.0.ticket ≢ Some r → n ≡ m)
