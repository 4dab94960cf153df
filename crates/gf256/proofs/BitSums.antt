-- Exclusive or as the sum of the field.
use Rattle.std.proofs.Common.{◌≡◌, ℕ, ◌+◌, ◌*◌, ◌%◌, ◌^◌, ◌<◌, zero, suc, sym, ◌∙◌, ap, arith}
use Rattle.std.specs.Int.Bits.{bit_xor, xor_assoc, xor_self, xor_zero_l, xor_zero_r}
use Rattle.std.proofs.lemmas.Nat.{xor_comm, xor_block, pow_pos}

-- two sums of two are summed place by place
pub xor_interchange : (p q r s : ℕ) → bit_xor (bit_xor p q) (bit_xor r s) ≡ bit_xor (bit_xor p r) (bit_xor q s)
xor_interchange p q r s =
    xor_assoc p q (bit_xor r s) ∙
    ap (λ x. bit_xor p x) (sym (xor_assoc q r s) ∙ ap (λ x. bit_xor x s) (xor_comm q r) ∙ xor_assoc r q s) ∙
    sym (xor_assoc p r (bit_xor q s))

-- a number added twice is gone
pub xor_twice : (a b : ℕ) → bit_xor a (bit_xor a b) ≡ b
xor_twice a b = sym (xor_assoc a a b) ∙ ap (λ x. bit_xor x b) (xor_self a) ∙ xor_zero_l b

-- numbers whose sum is 0 are equal
pub xor-cancel : (a b : ℕ) → bit_xor a b ≡ 0 → a ≡ b
xor-cancel a b e = sym (xor_zero_r a) ∙ ap (λ x. bit_xor a x) (sym e) ∙ xor_twice a b

-- a shift of a sum
pub xor-shift : (a b k : ℕ) → bit_xor a b * 2 ^ k ≡ bit_xor (a * 2 ^ k) (b * 2 ^ k)
xor-shift a b k =
    let e : bit_xor (a * 2 ^ k + 0) (b * 2 ^ k + 0) ≡ bit_xor a b * 2 ^ k + bit_xor 0 0 = xor_block k a b 0 0 (pow_pos k) (pow_pos k) in
    let first : a * 2 ^ k + 0 ≡ a * 2 ^ k = omega arith in
    let second : b * 2 ^ k + 0 ≡ b * 2 ^ k = omega arith in
    let whole : bit_xor a b * 2 ^ k + 0 ≡ bit_xor a b * 2 ^ k = omega arith in
    sym whole ∙ sym e ∙ ap (λ x. bit_xor x (b * 2 ^ k + 0)) first ∙ ap (λ x. bit_xor (a * 2 ^ k) x) second

-- the multiple by a sum of two bits
pub xor-multiple : (u v m : ℕ) → u < 2 → v < 2 → ((u + v) % 2) * m ≡ bit_xor (u * m) (v * m)
xor-multiple zero v m below below' =
    let e : (0 + v) % 2 ≡ v = omega arith in
    let none : 0 * m ≡ 0 = omega arith in
    ap (λ x. x * m) e ∙ sym (ap (λ x. bit_xor x (v * m)) none ∙ xor_zero_l (v * m))
xor-multiple (suc zero) zero m below below' =
    let none : 0 * m ≡ 0 = omega arith in
    sym (ap (λ x. bit_xor (1 * m) x) none ∙ xor_zero_r (1 * m))
xor-multiple (suc zero) (suc zero) m below below' =
    let none : 0 * m ≡ 0 = omega arith in
    none ∙ sym (xor_self (1 * m))
xor-multiple (suc zero) (suc (suc v)) m below below' = absurd (omega arith)
xor-multiple (suc (suc u)) v m below below' = absurd (omega arith)
