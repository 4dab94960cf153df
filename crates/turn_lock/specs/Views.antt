-- What a pass knows, and how each step changes it.
use Rattle.std.specs.Prelude.{ℕ, ◌+◌, ◌-◌, max, List, [], ◌∷◌, ◌++◌, Option, Some, None}
use Rattle.turn_lock.specs.declared.view.Turn.{Turn}
use Rattle.turn_lock.specs.declared.view.View.{View}
use Rattle.turn_lock.specs.declared.lock.TheConstants.{ALL_PARTS}

module _ {T : Type 0} where
  abbrev pub view : ℕ → ℕ → ℕ → Option ℕ → Option T → List (Turn T) → Option T → View T
  view parts seen looked ticket lent done of = record { parts = parts; seen = seen; looked = looked; ticket = ticket; lent = lent; done = done; of = of }

  -- of the pass that comes with a new lock: it has all parts, and has seen the turns of the value
  abbrev pub first : ℕ → T → View T
  first turns of = view ALL_PARTS turns 0 None None [] (Some of)

  -- without some of its parts
  abbrev pub cut : ℕ → View T → View T
  cut amount v = view (v.parts - amount) v.seen v.looked v.ticket v.lent v.done v.of

  -- of a pass with those parts, which has seen the same
  abbrev pub part : ℕ → View T → View T
  part amount v = view amount v.seen v.looked None None [] v.of

  -- with the parts and the turns of both, and the later of what both have seen
  abbrev pub joined : View T → View T → View T
  joined v w = view (v.parts + w.parts) (max v.seen w.seen) (max v.looked w.looked) v.ticket v.lent (v.done ++ w.done) v.of

  -- of a pass that is joined away
  abbrev pub gone : View T
  gone = view 0 0 0 None None [] None

  -- after a look at the next ticket
  abbrev pub looked : ℕ → View T → View T
  looked found v = view v.parts v.seen found v.ticket v.lent v.done v.of

  -- after it drew a ticket
  abbrev pub drew : ℕ → View T → View T
  drew ticket v = view v.parts v.seen v.looked (Some ticket) v.lent v.done v.of

  -- in turn, with the value as it went out
  abbrev pub lending : T → View T → View T
  lending value v = view v.parts v.seen v.looked v.ticket (Some value) v.done v.of

  -- after that turn, when so many turns were
  abbrev pub rested : ℕ → Turn T → View T → View T
  rested turns t v = view v.parts turns v.looked None None (v.done ++ t ∷ []) v.of
