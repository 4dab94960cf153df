-- The laws of powers.
use Rattle.std.proofs.Common.{◌≡◌, ℕ, ◌+◌, ◌*◌, ◌<◌, zero, suc, refl, sym, ◌∙◌, ap, lit<, arith}
use Rattle.gf256.specs.Field.{product, power}
use Rattle.gf256.proofs.Products.{product-lt, product-assoc, product-one_left, product-zero_left}

-- a power is an element
pub power-lt : (a n : ℕ) → a < 256 → power a n < 256
unfolding power
power-lt a zero a_byte = lit< tt
power-lt a (suc n) a_byte = product-lt a (power a n) a_byte (power-lt a n a_byte)

-- the power of exponent 0
pub power-zero : (a : ℕ) → power a 0 ≡ 1
unfolding power
power-zero a = refl

-- the power of the next exponent
pub power-suc : (a n : ℕ) → power a (suc n) ≡ product a (power a n)
unfolding power
power-suc a n = refl

-- a power of 0
pub power-of_zero : (n : ℕ) → 0 < n → power 0 n ≡ 0
power-of_zero zero positive = absurd (omega arith)
power-of_zero (suc n) positive = power-suc 0 n ∙ product-zero_left (power 0 n)

-- a power of 1
pub power-of_one : (n : ℕ) → power 1 n ≡ 1
power-of_one zero = power-zero 1
power-of_one (suc n) = power-suc 1 n ∙ ap (λ x. product 1 x) (power-of_one n) ∙ product-one_left 1 (lit< tt)

-- the product of two powers
pub power-add : (a m n : ℕ) → a < 256 → power a (m + n) ≡ product (power a m) (power a n)
power-add a zero n a_byte =
    let e : 0 + n ≡ n = omega arith in
    ap (λ x. power a x) e ∙ sym (ap (λ x. product x (power a n)) (power-zero a) ∙ product-one_left (power a n) (power-lt a n a_byte))
power-add a (suc m) n a_byte =
    let e : suc m + n ≡ suc (m + n) = omega arith in
    ap (λ x. power a x) e ∙ power-suc a (m + n) ∙ ap (λ x. product a x) (power-add a m n a_byte) ∙
    sym (ap (λ x. product x (power a n)) (power-suc a m) ∙ product-assoc a (power a m) (power a n) a_byte (power-lt a m a_byte) (power-lt a n a_byte))

-- a power of a power
pub power-mul : (a m n : ℕ) → a < 256 → power (power a m) n ≡ power a (m * n)
power-mul a m zero a_byte =
    let e : m * 0 ≡ 0 = omega arith in
    power-zero (power a m) ∙ sym (ap (λ x. power a x) e ∙ power-zero a)
power-mul a m (suc n) a_byte =
    let e : m * suc n ≡ m + m * n = omega arith in
    power-suc (power a m) n ∙ ap (λ x. product (power a m) x) (power-mul a m n a_byte) ∙
    sym (ap (λ x. power a x) e ∙ power-add a m (m * n) a_byte)
