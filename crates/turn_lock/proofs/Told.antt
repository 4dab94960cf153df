-- A history has just the turns between its values.
use Rattle.std.proofs.Common.{◌≡◌, ℕ, zero, suc, ◌+◌, ◌<◌, List, [], ◌∷◌, Contains, length, get_or, sym, refl, ap, subst, ◌∙◌, arith}
use Rattle.std.proofs.lemmas.List.Elements.{All-contains, Contains-append_right}
use mathlib.Core.Logic.{dite}
use native.Mathlib.Decide.{ℕ_discrete, dec_le}
use Rattle.turn_lock.specs.History.{tickets, Leads, turn_at, HistoryTellsTurns}
use Rattle.turn_lock.specs.Tickets.{times}
use Rattle.turn_lock.specs.declared.view.Turn.{Turn}
use Rattle.turn_lock.proofs.Counts.{same_eq, same_else, between_above, between_below, between_in}
use Rattle.turn_lock.proofs.Keeps.{same_turn}

module _ {T : Type 0} where
  -- a ticket that is counted is that of a turn
  abbrev has_turn : (turns : List (Turn T)) (n : ℕ) → 0 < times n (tickets turns) → (t : Turn T) × Contains turns t × (t.ticket ≡ n)
  has_turn [] n some = absurd (omega arith)
  has_turn (x ∷ xs) n some = dite (ℕ_discrete n x.ticket)
      (λ e. (x, (0, omega arith, refl), sym e))
      (λ ne. let later = has_turn xs n (omega (arith, same_else n x.ticket ne)) in (later.0, Contains-append_right (x ∷ []) xs later.0 later.1, later.2))

  -- and that of a turn is counted
  has_ticket : (turns : List (Turn T)) (t : Turn T) (k : ℕ) → k < length turns → get_or turns k t ≡ t → 0 < times t.ticket (tickets turns)
  has_ticket [] t k below is = absurd (omega arith)
  has_ticket (x ∷ xs) t zero below is = omega (arith, same_eq t.ticket x.ticket (ap (λ (u : Turn T). u.ticket) (sym is)))
  has_ticket (x ∷ xs) t (suc k) below is = omega (arith, has_ticket xs t k (omega arith) is)

  -- a turn of a history is the one at its count
  is_turn_at : (at : ℕ → T) (t : Turn T) (n : ℕ) → Leads at t → t.ticket ≡ n → t ≡ turn_at at n
  is_turn_at at t n led e = same_turn t (turn_at at n) e (sym led.0 ∙ ap at e) (sym led.1 ∙ ap (λ (k : ℕ). at (k + 1)) e)

module _ {T N : Type 0} (turn : T → ℕ) (name : T → N) where
  pub told : HistoryTellsTurns turn name
  told first last turns h = (
    (λ n from to. let t = has_turn turns n (omega (arith, h.once n, between_in (turn first) (turn last) n from to)) in
        subst (Contains turns) (is_turn_at h.at t.0 n (All-contains (Leads h.at) turns t.0 h.led t.1) t.2) t.1),
    (λ t there. let some = has_ticket turns t there.0 there.1 there.2 in let is = h.once t.ticket in (
      dite (dec_le (turn first) t.ticket) (λ le. le) (λ less. absurd (omega (arith, between_below (turn first) (turn last) t.ticket (omega arith)))),
      dite (dec_le (turn last) t.ticket)
          (λ le. dite (dec_le (turn first) t.ticket)
          (λ from. absurd (omega (arith, between_above (turn first) (turn last) t.ticket from le)))
          (λ less. absurd (omega (arith, between_below (turn first) (turn last) t.ticket (omega arith)))))
          (λ less. omega arith),
      is_turn_at h.at t t.ticket (All-contains (Leads h.at) turns t h.led there) refl,
    )),
  )
