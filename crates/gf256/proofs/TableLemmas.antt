-- The two tables, by tests of the checker over them: each power is twice the one before it, and each element is the power of its logarithm.
use Rattle.std.proofs.Common.{◌≡◌, ℕ, ◌+◌, ◌*◌, ◌/◌, ◌%◌, ◌<◌, Bool, true, ◌&&◌, eqb, ltb, List, [], ◌∷◌, length, get_or, zero, suc, refl, sym, ◌∙◌, ap, lit<, arith}
use Rattle.std.proofs.lemmas.Bool.{and_parts, eqb-true, ltb-true}
use Rattle.gf256.specs.Field.{product, power, sum_of_copies, remainder}
use Rattle.gf256.specs.declared.tables.TheConstants.{POWERS, LOGARITHMS}
use Rattle.gf256.proofs.Products.{all_below, all_below-at, product-one_left}
use Rattle.gf256.proofs.Powers.{power-zero, power-suc, power-add, power-mul, power-of_one, power-lt}

-- whether each of a list is twice the one before it, the first being v
abbrev doubles_from : ℕ → List ℕ → Bool
doubles_from v [] = true
doubles_from v (x ∷ xs) = eqb x v && doubles_from (product 2 v) xs

doubles_from-at : (v : ℕ) (xs : List ℕ) (e : ℕ) → v ≡ power 2 e → doubles_from v xs ≡ true → (k : ℕ) → k < length xs → get_or xs k 0 ≡ power 2 (e + k)
doubles_from-at v [] e first holds k lt = absurd (omega arith)
doubles_from-at v (x ∷ xs) e first holds zero lt =
    let same : e ≡ e + 0 = omega arith in
    eqb-true x v (and_parts (eqb x v) (doubles_from (product 2 v) xs) holds).0 ∙ first ∙ ap (λ n. power 2 n) same
doubles_from-at v (x ∷ xs) e first holds (suc k) lt =
    let same : suc e + k ≡ e + suc k = omega arith in
    doubles_from-at (product 2 v) xs (suc e) (ap (λ y. product 2 y) first ∙ sym (power-suc 2 e))
    (and_parts (eqb x v) (doubles_from (product 2 v) xs) holds).1 k (omega arith) ∙
    ap (λ n. power 2 n) same

powers_double : doubles_from 1 POWERS ≡ true
unfolding product sum_of_copies remainder
powers_double = refl

-- the table of powers
pub POWERS-at : (e : ℕ) → e < 510 → get_or POWERS e 0 ≡ power 2 e
POWERS-at e lt =
    let same : 0 + e ≡ e = omega arith in
    doubles_from-at 1 POWERS 0 (sym (power-zero 2)) powers_double e lt ∙ ap (λ n. power 2 n) same

logarithms_are_exponents : all_below (λ i. eqb (get_or POWERS (get_or LOGARITHMS (suc i) 0) 0) (suc i)) 255 ≡ true
logarithms_are_exponents = refl

logarithms_are_low : all_below (λ i. ltb (get_or LOGARITHMS (suc i) 0) 255) 255 ≡ true
logarithms_are_low = refl

-- the table of logarithms: an entry is an exponent below 255
pub LOGARITHMS-lt : (a : ℕ) → 0 < a → a < 256 → get_or LOGARITHMS a 0 < 255
LOGARITHMS-lt zero positive a_byte = absurd (omega arith)
LOGARITHMS-lt (suc i) positive a_byte =
    ltb-true (get_or LOGARITHMS (suc i) 0) 255 (all_below-at (λ i. ltb (get_or LOGARITHMS (suc i) 0) 255) 255 logarithms_are_low i (omega arith))

-- the table of logarithms: the power of an entry is the element
pub LOGARITHMS-at : (a : ℕ) → 0 < a → a < 256 → power 2 (get_or LOGARITHMS a 0) ≡ a
LOGARITHMS-at zero positive a_byte = absurd (omega arith)
LOGARITHMS-at (suc i) positive a_byte =
    let low : get_or LOGARITHMS (suc i) 0 < 255 = LOGARITHMS-lt (suc i) positive a_byte in
    sym (POWERS-at (get_or LOGARITHMS (suc i) 0) (omega arith)) ∙
    eqb-true (get_or POWERS (get_or LOGARITHMS (suc i) 0) 0) (suc i)
    (all_below-at (λ i. eqb (get_or POWERS (get_or LOGARITHMS (suc i) 0) 0) (suc i)) 255 logarithms_are_exponents i (omega arith))

-- each element but 0 is a power of 2
pub logarithm_of : (a : ℕ) → 0 < a → a < 256 → (n : ℕ) × ((n < 255) × (power 2 n ≡ a))
logarithm_of a positive a_byte = (get_or LOGARITHMS a 0, (LOGARITHMS-lt a positive a_byte, LOGARITHMS-at a positive a_byte))

-- the powers of 2 repeat after 255
pub power-two_255 : power 2 255 ≡ 1
power-two_255 = sym (POWERS-at 255 (lit< tt))

-- so an exponent counts by its remainder
pub power-two_mod : (n : ℕ) → power 2 (n % 255) ≡ power 2 n
power-two_mod n =
    let q : ℕ = n / 255 in
    let r : ℕ = n % 255 in
    let split : 255 * q + r ≡ n = omega arith in
    let whole : power 2 (255 * q) ≡ 1 = sym (power-mul 2 255 q (lit< tt)) ∙ ap (λ x. power x q) power-two_255 ∙ power-of_one q in
    sym (ap (λ x. power 2 x) (sym split) ∙ power-add 2 (255 * q) r (lit< tt) ∙ ap (λ x. product x (power 2 r)) whole ∙ product-one_left (power 2 r) (power-lt 2 r (lit< tt)))
