-- What the reduction leaves differs from the number by a multiple of the modulus.
use Rattle.std.proofs.Common.{◌≡◌, ℕ, ◌+◌, ◌-◌, ◌*◌, ◌%◌, ◌^◌, ◌<◌, ◌≤◌, zero, suc, refl, sym, ◌∙◌, ap, lit<, arith}
use Rattle.std.specs.Int.{bit_at}
use Rattle.std.specs.Int.Bits.{bit_xor, xor_assoc, xor_self, xor_zero_l, xor_zero_r}
use Rattle.std.proofs.lemmas.Nat.{xor_comm}
use Rattle.std.proofs.lemmas.Nat.Bits.{bit_at-lt, bit_at_lowest, bit_at_cat_low, bit_at_cat_high}
use Rattle.std.proofs.Math.Nat.{pow-suc, mul-le-mul_left}
use Rattle.gf256.specs.Field.{modulus, sum_of_copies, without_bit_above, remainder, product}

-- sums of copies at the bits of two numbers that agree below bit n are equal
sum_of_copies-same : (a b c n : ℕ) → ((i : ℕ) → i < n → bit_at a i ≡ bit_at b i) → sum_of_copies a c n ≡ sum_of_copies b c n
unfolding sum_of_copies
sum_of_copies-same a b c zero same = refl
sum_of_copies-same a b c (suc k) same =
    ap (λ x. bit_xor x (bit_at a k * (c * 2 ^ k))) (sum_of_copies-same a b c k (λ i l. same i (omega arith))) ∙
    ap (λ u. bit_xor (sum_of_copies b c k) (u * (c * 2 ^ k))) (same k (omega arith))

-- a term moved out of one sum and into another
xor_moved : (x u s r : ℕ) → bit_xor x u ≡ bit_xor s r → x ≡ bit_xor (bit_xor s u) r
xor_moved x u s r e =
    sym (xor_assoc x u u ∙ ap (λ y. bit_xor x y) (xor_self u) ∙ xor_zero_r x) ∙ ap (λ y. bit_xor y u) e ∙
    xor_assoc s r u ∙ ap (λ y. bit_xor s y) (xor_comm r u) ∙ sym (xor_assoc s u r)

-- a number is what is left of it and the sum of the copies of the modulus at the bits of some number
pub remainder-multiple : (n x : ℕ) → (q : ℕ) × ((q < 2 ^ n) × (x ≡ bit_xor (sum_of_copies q modulus n) (remainder n x)))
unfolding remainder sum_of_copies
remainder-multiple zero x = (0, (lit< tt, sym (xor_zero_l x)))
remainder-multiple (suc k) x =
    let u : ℕ = bit_at x (8 + k) in
    let m : ℕ = modulus * 2 ^ k in
    let lower = remainder-multiple k (without_bit_above k x) in
    let q : ℕ = u * 2 ^ k + lower.0 in
    let rest : ℕ = remainder k (without_bit_above k x) in
    let u_bit : u < 2 = bit_at-lt x (8 + k) in
    let lower_bits : lower.0 < 2 ^ k = lower.1.0 in
    let double : 2 ^ suc k ≡ 2 ^ k * 2 = pow-suc 2 k in
    let shifted : 2 ^ k * u ≤ 2 ^ k * 1 = mul-le-mul_left (2 ^ k) (omega arith) in
    let start : k - k ≡ 0 = omega arith in
    let one_bit : u % 2 ≡ u = omega arith in
    let high : bit_at q k ≡ u = bit_at_cat_high u k lower.0 k lower.1.0 (omega arith) ∙ ap (λ j. bit_at u j) start ∙ bit_at_lowest u ∙ one_bit in
    let low : sum_of_copies q modulus k ≡ sum_of_copies lower.0 modulus k =
    sum_of_copies-same q lower.0 modulus k (λ i l. bit_at_cat_low u k lower.0 i l) in (
      q,
      (
        omega arith,
        xor_moved x (u * m) (sum_of_copies lower.0 modulus k) rest lower.1.1 ∙
            sym (ap (λ y. bit_xor (bit_xor y (bit_at q k * m)) rest) low ∙ ap (λ v. bit_xor (bit_xor (sum_of_copies lower.0 modulus k) (v * m)) rest) high),
      ),
    )

-- the sum of copies, and so the product reduced
pub product-multiple : (a b : ℕ) → (q : ℕ) × (sum_of_copies a b 8 ≡ bit_xor (sum_of_copies q modulus 7) (product a b))
unfolding product
product-multiple a b =
    let found = remainder-multiple 7 (sum_of_copies a b 8) in
    (found.0, found.1.1)
