-- Sums over lists that change at one place, and tickets counted.
use Rattle.std.proofs.Common.{◌≡◌, ℕ, zero, suc, ◌+◌, ◌<◌, ◌≤◌, ◌≢◌, List, [], ◌∷◌, ◌++◌, set, cond, ltb, sym, refl, ap, ◌∙◌, arith, eq-eqb, ne_eqb, lt-ltb, le-ltb}
use mathlib.Core.Logic.{dite}
use mathlib.Core.Option as maybe
use native.Mathlib.Decide.{ℕ_discrete, dec_le}
use lib.ListN.{get_elem?}
use Rattle.turn_lock.specs.Tickets.{total, same, between}

module _ {A : Type 0} where
  pub set_there : (l : List A) (j : ℕ) (v w : A) → get_elem? l j ≡ maybe.some v → get_elem? (set l j w) j ≡ maybe.some w
  set_there [] j v w e = absurd (maybe.some-ne-none v (sym e))
  set_there (x ∷ xs) zero v w e = refl
  set_there (x ∷ xs) (suc j) v w e = set_there xs j v w e

  pub total-append : (g : A → ℕ) (l m : List A) → total g (l ++ m) ≡ total g l + total g m
  total-append g [] m = omega arith
  total-append g (x ∷ xs) m = omega (arith, total-append g xs m)

  pub total-set : (g : A → ℕ) (l : List A) (j : ℕ) (v w : A) → get_elem? l j ≡ maybe.some v → total g (set l j w) + g v ≡ total g l + g w
  total-set g [] j v w e = absurd (maybe.some-ne-none v (sym e))
  total-set g (x ∷ xs) zero v w e = omega (arith, ap g (maybe.some-injective x v e))
  total-set g (x ∷ xs) (suc j) v w e = omega (arith, total-set g xs j v w e)

  pub term_le : (g : A → ℕ) (l : List A) (j : ℕ) (v : A) → get_elem? l j ≡ maybe.some v → g v ≤ total g l
  term_le g [] j v e = absurd (maybe.some-ne-none v (sym e))
  term_le g (x ∷ xs) zero v e = omega (arith, ap g (maybe.some-injective x v e))
  term_le g (x ∷ xs) (suc j) v e = omega (arith, term_le g xs j v e)

  pub terms_le : (g : A → ℕ) (l : List A) (j k : ℕ) (v u : A) → k ≢ j → get_elem? l j ≡ maybe.some v → get_elem? l k ≡ maybe.some u → g v + g u ≤ total g l
  terms_le g [] j k v u n e d = absurd (maybe.some-ne-none v (sym e))
  terms_le g (x ∷ xs) zero zero v u n e d = absurd (n refl)
  terms_le g (x ∷ xs) zero (suc k) v u n e d = omega (arith, ap g (maybe.some-injective x v e), term_le g xs k u d)
  terms_le g (x ∷ xs) (suc j) zero v u n e d = omega (arith, ap g (maybe.some-injective x u d), term_le g xs j v e)
  terms_le g (x ∷ xs) (suc j) (suc k) v u n e d = omega (arith, terms_le g xs j k v u (λ h. n (ap suc h)) e d)

  pub total_none : (g : A → ℕ) (l : List A) → ((k : ℕ) (u : A) → get_elem? l k ≡ maybe.some u → g u ≡ 0) → total g l ≡ 0
  total_none g [] none = refl
  total_none g (x ∷ xs) none = let here = none 0 x refl in omega (arith, total_none g xs (λ k u e. none (suc k) u e))

  pub total_only : (g : A → ℕ) (l : List A) (j : ℕ) (v : A) → get_elem? l j ≡ maybe.some v → ((k : ℕ) (u : A) → k ≢ j → get_elem? l k ≡ maybe.some u → g u ≡ 0) → total g l ≡ g v
  total_only g [] j v e none = absurd (maybe.some-ne-none v (sym e))
  total_only g (x ∷ xs) zero v e none =
      let rest = total_none g xs (λ k u d. none (suc k) u (λ h. omega arith) d) in
      omega (arith, ap g (maybe.some-injective x v e))
  total_only g (x ∷ xs) (suc j) v e none =
      let here = none 0 x (λ h. omega arith) refl in
      omega (arith, total_only g xs j v e (λ k u n d. none (suc k) u (λ h. n (omega arith)) d))

pub same_here : (x : ℕ) → same x x ≡ 1
same_here x = ap (λ b. cond b 1 0) (eq-eqb x x refl)

pub same_eq : (x t : ℕ) → x ≡ t → same x t ≡ 1
same_eq x t e = ap (λ b. cond b 1 0) (eq-eqb x t e)

pub same_else : (x t : ℕ) → x ≢ t → same x t ≡ 0
same_else x t n = ap (λ b. cond b 1 0) (ne_eqb x t n)

pub between_below : (from to x : ℕ) → x < from → between from to x ≡ 0
between_below from to x h = ap (λ b. cond b 0 (cond (ltb x to) 1 0)) (lt-ltb x from h)

pub between_above : (from to x : ℕ) → from ≤ x → to ≤ x → between from to x ≡ 0
between_above from to x h k = ap (λ b. cond b 0 (cond (ltb x to) 1 0)) (le-ltb x from h) ∙ ap (λ b. cond b 1 0) (le-ltb x to k)

pub between_in : (from to x : ℕ) → from ≤ x → x < to → between from to x ≡ 1
between_in from to x h k = ap (λ b. cond b 0 (cond (ltb x to) 1 0)) (le-ltb x from h) ∙ ap (λ b. cond b 1 0) (lt-ltb x to k)

pub between_most : (from to x : ℕ) → between from to x ≤ 1
between_most from to x = dite (dec_le from x) (λ h. dite (dec_le to x) (λ k. omega (arith, between_above from to x h k)) (λ k. omega (arith, between_in from to x h (omega arith))))
    (λ h. omega (arith, between_below from to x (omega arith)))

-- none is between a number and itself
pub between_none : (n x : ℕ) → between n n x ≡ 0
between_none n x = dite (dec_le n x) (λ h. between_above n n x h h) (λ h. between_below n n x (omega arith))

-- one more at the end
pub between_grows : (from to x : ℕ) → from ≤ to → between from (to + 1) x ≡ between from to x + same x to
between_grows from to x ahead = dite (ℕ_discrete x to)
    (λ e. omega (arith, same_eq x to e, between_above from to x (omega arith) (omega arith), between_in from (to + 1) x (omega arith) (omega arith)))
    (λ ne. dite (dec_le from x)
    (λ h. dite (dec_le to x)
    (λ k. omega (arith, same_else x to ne, between_above from to x h k, between_above from (to + 1) x h (omega arith)))
    (λ k. omega (arith, same_else x to ne, between_in from to x h (omega arith), between_in from (to + 1) x h (omega arith))))
    (λ h. omega (arith, same_else x to ne, between_below from to x (omega arith), between_below from (to + 1) x (omega arith))))

-- one fewer at the front
pub between_falls : (from to x : ℕ) → from < to → between from to x ≡ between (from + 1) to x + same x from
between_falls from to x ahead = dite (ℕ_discrete x from)
    (λ e. omega (arith, same_eq x from e, between_in from to x (omega arith) (omega arith), between_below (from + 1) to x (omega arith)))
    (λ ne. dite (dec_le from x)
    (λ h. dite (dec_le to x)
    (λ k. omega (arith, same_else x from ne, between_above from to x h k, between_above (from + 1) to x (omega arith) k))
    (λ k. omega (arith, same_else x from ne, between_in from to x h (omega arith), between_in (from + 1) to x (omega arith) (omega arith))))
    (λ h. omega (arith, same_else x from ne, between_below from to x (omega arith), between_below (from + 1) to x (omega arith))))
