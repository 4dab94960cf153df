use Rattle.std.proofs.Common.{◌≡◌, ℕ, zero, suc, ◌+◌, ◌<◌, List, [], ◌∷◌, ◌++◌, Contains, length, get_or, sym, refl, ap, subst, ◌∙◌, arith}
use mathlib.Core.Logic.{dite}
use native.Mathlib.Decide.{dec_le}
use Rattle.turn_lock.specs.History.{IsHistory, HistoryTellsTurns, turn_at}
use Rattle.turn_lock.specs.declared.view.Turn.{Turn}
use Rattle.turn_lock.proofs.tests.only_turn.Goals as goal

module _ {T N : Type 0} (turn : T → ℕ) (name : T → N) (law : HistoryTellsTurns turn name) where
  -- the one turn of a list of one
  alone : (t u : Turn T) (k : ℕ) → k < length (t ∷ []) → get_or (t ∷ []) k u ≡ u → t ≡ u
  alone t u zero below is = is
  alone t u (suc k) below is = absurd (omega arith)

  -- where one turn was made, the last value is what it gave back
  last_is : (first last : T) (turns before : List (Turn T)) (t : Turn T) → turns ≡ before ++ t ∷ [] → before ≡ [] → IsHistory turn name first last turns → last ≡ t.to
  last_is first last turns before t more none h =
      let one : turns ≡ t ∷ [] = more ∙ ap (λ (l : List (Turn T)). l ++ t ∷ []) none in
      let tells = law first last turns h in
      let made = tells.1 t (subst (λ (l : List (Turn T)). Contains l t) (sym one) (0, omega arith, refl)) in
      let from = made.0 in let below = made.1 in
      let over : turn last ≡ t.ticket + 1 = dite (dec_le (turn last) (t.ticket + 1)) (λ le. omega arith)
      (λ more. let next = subst (λ (l : List (Turn T)). Contains l (turn_at h.at (t.ticket + 1))) one (tells.0 (t.ticket + 1) (omega arith) (omega arith)) in
      absurd (omega (arith, ap (λ (u : Turn T). u.ticket) (alone t (turn_at h.at (t.ticket + 1)) next.0 next.1 next.2)))) in
      sym h.ends ∙ (ap h.at over ∙ sym (ap (λ (u : Turn T). u.to) made.2))

pub returns-in-Ok-closed : goal.returns-in-Ok-closed
returns-in-Ok-closed g c made = ap (λ tally. tally.sum)
    (last_is _ _ c.history_law.ensures _ _ _ _ _ c.give-pass.ensures.turns (c.in-Ok.ensures.turns.0 ∙ c.requires.2) c.in-Ok-closed.ensures.history)
