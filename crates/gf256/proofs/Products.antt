-- The product of the field is additive in each factor, and so its laws are those of the powers of two, which the checker computes.
use Rattle.std.proofs.Common.{◌≡◌, ℕ, ◌+◌, ◌*◌, ◌^◌, ◌<◌, Bool, true, ◌&&◌, eqb, ltb, inl, inr, lit<, zero, suc, refl, sym, ◌∙◌, ap, arith}
use Rattle.std.specs.Int.{bit_at}
use Rattle.std.specs.Int.Bits.{bit_xor}
use Rattle.std.proofs.lemmas.Nat.Bits.{bit_at_xor, bit_at-lt}
use Rattle.std.proofs.lemmas.Bool.{and_parts, cases_lt, eqb-true, ltb-true}
use Rattle.gf256.specs.Field.{modulus, shifted_copy, sum_of_copies, without_bit_above, remainder, product}
use Rattle.gf256.proofs.BitSums.{xor_interchange, xor-shift, xor-multiple}
use Rattle.gf256.proofs.Additive.{additive_agree, additive_bound, additive-zero}

-- a multiple by one bit of a sum
bit-multiple : (a b i m : ℕ) → bit_at (bit_xor a b) i * m ≡ bit_xor (bit_at a i * m) (bit_at b i * m)
bit-multiple a b i m = ap (λ x. x * m) (bit_at_xor a b i) ∙ xor-multiple (bit_at a i) (bit_at b i) m (bit_at-lt a i) (bit_at-lt b i)

sum_of_copies-xor_left : (a b c n : ℕ) → sum_of_copies (bit_xor a b) c n ≡ bit_xor (sum_of_copies a c n) (sum_of_copies b c n)
unfolding sum_of_copies
sum_of_copies-xor_left a b c zero = refl
sum_of_copies-xor_left a b c (suc i) =
    ap (λ x. bit_xor x (shifted_copy (bit_xor a b) c i)) (sum_of_copies-xor_left a b c i) ∙
    ap (λ x. bit_xor (bit_xor (sum_of_copies a c i) (sum_of_copies b c i)) x) (bit-multiple a b i (c * 2 ^ i)) ∙
    xor_interchange (sum_of_copies a c i) (sum_of_copies b c i) (shifted_copy a c i) (shifted_copy b c i)

shifted_copy-xor : (a b c i : ℕ) → shifted_copy a (bit_xor b c) i ≡ bit_xor (shifted_copy a b i) (shifted_copy a c i)
shifted_copy-xor a b c i =
    ap (λ x. bit_at a i * x) (xor-shift b c i) ∙ bit_of_sum (bit_at a i) (b * 2 ^ i) (c * 2 ^ i) (bit_at-lt a i)
  where
    bit_of_sum : (u m n : ℕ) → u < 2 → u * bit_xor m n ≡ bit_xor (u * m) (u * n)
    bit_of_sum zero m n below =
        let first : 0 * m ≡ 0 = omega arith in
        let second : 0 * n ≡ 0 = omega arith in
        let both : 0 * bit_xor m n ≡ 0 = omega arith in
        both ∙ sym (ap (λ x. bit_xor x (0 * n)) first ∙ ap (λ x. bit_xor 0 x) second)
    bit_of_sum (suc zero) m n below =
        let first : 1 * m ≡ m = omega arith in
        let second : 1 * n ≡ n = omega arith in
        let both : 1 * bit_xor m n ≡ bit_xor m n = omega arith in
        both ∙ sym (ap (λ x. bit_xor x (1 * n)) first ∙ ap (λ x. bit_xor m x) second)
    bit_of_sum (suc (suc u)) m n below = absurd (omega arith)

sum_of_copies-xor_right : (a b c n : ℕ) → sum_of_copies a (bit_xor b c) n ≡ bit_xor (sum_of_copies a b n) (sum_of_copies a c n)
unfolding sum_of_copies
sum_of_copies-xor_right a b c zero = refl
sum_of_copies-xor_right a b c (suc i) =
    ap (λ x. bit_xor x (shifted_copy a (bit_xor b c) i)) (sum_of_copies-xor_right a b c i) ∙
    ap (λ x. bit_xor (bit_xor (sum_of_copies a b i) (sum_of_copies a c i)) x) (shifted_copy-xor a b c i) ∙
    xor_interchange (sum_of_copies a b i) (sum_of_copies a c i) (shifted_copy a b i) (shifted_copy a c i)

without_bit_above-xor : (k a b : ℕ) → without_bit_above k (bit_xor a b) ≡ bit_xor (without_bit_above k a) (without_bit_above k b)
without_bit_above-xor k a b =
    let m : ℕ = modulus * 2 ^ k in
    ap (λ x. bit_xor (bit_xor a b) x) (bit-multiple a b (8 + k) m) ∙
    xor_interchange a b (bit_at a (8 + k) * m) (bit_at b (8 + k) * m)

remainder-xor : (n a b : ℕ) → remainder n (bit_xor a b) ≡ bit_xor (remainder n a) (remainder n b)
unfolding remainder
remainder-xor zero a b = refl
remainder-xor (suc k) a b = ap (remainder k) (without_bit_above-xor k a b) ∙ remainder-xor k (without_bit_above k a) (without_bit_above k b)

-- the product of a sum on the left
pub product-xor_left : (a b c : ℕ) → product (bit_xor a b) c ≡ bit_xor (product a c) (product b c)
unfolding product
product-xor_left a b c = ap (remainder 7) (sum_of_copies-xor_left a b c 8) ∙ remainder-xor 7 (sum_of_copies a c 8) (sum_of_copies b c 8)

-- and of a sum on the right
pub product-xor_right : (a b c : ℕ) → product a (bit_xor b c) ≡ bit_xor (product a b) (product a c)
unfolding product
product-xor_right a b c = ap (remainder 7) (sum_of_copies-xor_right a b c 8) ∙ remainder-xor 7 (sum_of_copies a b 8) (sum_of_copies a c 8)

-- 0 times an element
pub product-zero_left : (a : ℕ) → product 0 a ≡ 0
product-zero_left a = additive-zero (λ x. product x a) (λ x y. product-xor_left x y a)

-- an element times 0
pub product-zero_right : (a : ℕ) → product a 0 ≡ 0
product-zero_right a = additive-zero (λ x. product a x) (product-xor_right a)

-- whether a test holds of each number below n
abbrev pub all_below : (ℕ → Bool) → ℕ → Bool
all_below test zero = true
all_below test (suc n) = test n && all_below test n

-- what a test tells, of each number below n
pub all_below-at : (test : ℕ → Bool) (n : ℕ) → all_below test n ≡ true → (k : ℕ) → k < n → test k ≡ true
all_below-at test zero holds k lt = absurd (omega arith)
all_below-at test (suc n) holds k lt =
    let parts = and_parts (test n) (all_below test n) holds in
    elim (cases_lt k n) [
      | inl less ↦ all_below-at test n parts.1 k less
      | inr last ↦ let e : k ≡ n = omega arith in ap test e ∙ parts.0
    ]

basis_is_bytes : all_below (λ i. all_below (λ j. ltb (product (2 ^ i) (2 ^ j)) 256) 8) 8 ≡ true
unfolding product sum_of_copies remainder
basis_is_bytes = refl

basis_commutes : all_below (λ i. all_below (λ j. eqb (product (2 ^ i) (2 ^ j)) (product (2 ^ j) (2 ^ i))) 8) 8 ≡ true
unfolding product sum_of_copies remainder
basis_commutes = refl

basis_associates : all_below (λ i. all_below (λ j. all_below (λ k. eqb (product (product (2 ^ i) (2 ^ j)) (2 ^ k)) (product (2 ^ i) (product (2 ^ j) (2 ^ k)))) 8) 8) 8 ≡ true
unfolding product sum_of_copies remainder
basis_associates = refl

basis_has_one : all_below (λ i. eqb (product (2 ^ i) 1) (2 ^ i)) 8 ≡ true
unfolding product sum_of_copies remainder
basis_has_one = refl

-- the product of two bytes is a byte
pub product-lt : (a b : ℕ) → a < 256 → b < 256 → product a b < 256
product-lt a b a_byte b_byte =
    additive_bound (λ x. product x b) (λ x y. product-xor_left x y b) 8 8
    (λ i i_low. additive_bound (λ y. product (2 ^ i) y) (product-xor_right (2 ^ i)) 8 8
    (λ j j_low. ltb-true (product (2 ^ i) (2 ^ j)) 256
    (all_below-at (λ j. ltb (product (2 ^ i) (2 ^ j)) 256) 8
    (all_below-at (λ i. all_below (λ j. ltb (product (2 ^ i) (2 ^ j)) 256) 8) 8 basis_is_bytes i i_low) j j_low))
    b b_byte)
    a a_byte

-- the factors change places
pub product-comm : (a b : ℕ) → a < 256 → b < 256 → product a b ≡ product b a
product-comm a b a_byte b_byte =
    additive_agree (λ x. product x b) (λ x. product b x) (λ x y. product-xor_left x y b) (product-xor_right b) 8
    (λ i i_low. additive_agree (λ y. product (2 ^ i) y) (λ y. product y (2 ^ i)) (product-xor_right (2 ^ i)) (λ x y. product-xor_left x y (2 ^ i)) 8
    (λ j j_low. eqb-true (product (2 ^ i) (2 ^ j)) (product (2 ^ j) (2 ^ i))
    (all_below-at (λ j. eqb (product (2 ^ i) (2 ^ j)) (product (2 ^ j) (2 ^ i))) 8
    (all_below-at (λ i. all_below (λ j. eqb (product (2 ^ i) (2 ^ j)) (product (2 ^ j) (2 ^ i))) 8) 8 basis_commutes i i_low) j j_low))
    b b_byte)
    a a_byte

-- the two sides of the law of association, at powers of two in all places, in the first two, and in the first
basis_assoc : (i j k : ℕ) → i < 8 → j < 8 → k < 8 → product (product (2 ^ i) (2 ^ j)) (2 ^ k) ≡ product (2 ^ i) (product (2 ^ j) (2 ^ k))
basis_assoc i j k i_low j_low k_low =
    eqb-true (product (product (2 ^ i) (2 ^ j)) (2 ^ k)) (product (2 ^ i) (product (2 ^ j) (2 ^ k)))
    (all_below-at (λ k. eqb (product (product (2 ^ i) (2 ^ j)) (2 ^ k)) (product (2 ^ i) (product (2 ^ j) (2 ^ k)))) 8
    (all_below-at (λ j. all_below (λ k. eqb (product (product (2 ^ i) (2 ^ j)) (2 ^ k)) (product (2 ^ i) (product (2 ^ j) (2 ^ k)))) 8) 8
    (all_below-at (λ i. all_below (λ j. all_below (λ k. eqb (product (product (2 ^ i) (2 ^ j)) (2 ^ k)) (product (2 ^ i) (product (2 ^ j) (2 ^ k)))) 8) 8) 8 basis_associates i i_low)
    j j_low)
    k k_low)

basis_assoc_last : (i j c : ℕ) → i < 8 → j < 8 → c < 256 → product (product (2 ^ i) (2 ^ j)) c ≡ product (2 ^ i) (product (2 ^ j) c)
basis_assoc_last i j c i_low j_low c_byte =
    additive_agree (λ z. product (product (2 ^ i) (2 ^ j)) z) (λ z. product (2 ^ i) (product (2 ^ j) z))
    (product-xor_right (product (2 ^ i) (2 ^ j)))
    (λ x y. ap (λ z. product (2 ^ i) z) (product-xor_right (2 ^ j) x y) ∙ product-xor_right (2 ^ i) (product (2 ^ j) x) (product (2 ^ j) y))
    8 (λ k k_low. basis_assoc i j k i_low j_low k_low) c c_byte

basis_assoc_middle : (i b c : ℕ) → i < 8 → b < 256 → c < 256 → product (product (2 ^ i) b) c ≡ product (2 ^ i) (product b c)
basis_assoc_middle i b c i_low b_byte c_byte =
    additive_agree (λ y. product (product (2 ^ i) y) c) (λ y. product (2 ^ i) (product y c))
    (λ x y. ap (λ z. product z c) (product-xor_right (2 ^ i) x y) ∙ product-xor_left (product (2 ^ i) x) (product (2 ^ i) y) c)
    (λ x y. ap (λ z. product (2 ^ i) z) (product-xor_left x y c) ∙ product-xor_right (2 ^ i) (product x c) (product y c))
    8 (λ j j_low. basis_assoc_last i j c i_low j_low c_byte) b b_byte

-- three factors, in either order
pub product-assoc : (a b c : ℕ) → a < 256 → b < 256 → c < 256 → product (product a b) c ≡ product a (product b c)
product-assoc a b c a_byte b_byte c_byte =
    additive_agree (λ x. product (product x b) c) (λ x. product x (product b c))
    (λ x y. ap (λ z. product z c) (product-xor_left x y b) ∙ product-xor_left (product x b) (product y b) c)
    (λ x y. product-xor_left x y (product b c))
    8 (λ i i_low. basis_assoc_middle i b c i_low b_byte c_byte) a a_byte

-- an element times 1
pub product-one_right : (a : ℕ) → a < 256 → product a 1 ≡ a
product-one_right a a_byte =
    additive_agree (λ x. product x 1) (λ x. x) (λ x y. product-xor_left x y 1) (λ x y. refl) 8
    (λ i i_low. eqb-true (product (2 ^ i) 1) (2 ^ i) (all_below-at (λ i. eqb (product (2 ^ i) 1) (2 ^ i)) 8 basis_has_one i i_low))
    a a_byte

-- 1 times an element
pub product-one_left : (a : ℕ) → a < 256 → product 1 a ≡ a
product-one_left a a_byte = product-comm 1 a (lit< tt) a_byte ∙ product-one_right a a_byte
