-- A product by two look-ups.
use Rattle.std.proofs.Common.{◌≡◌, ℕ, ◌+◌, ◌*◌, ◌/◌, ◌%◌, ◌^◌, ◌<◌, List, get_or, sym, ap, ◌∙◌, arith}
use Rattle.std.specs.Int.Bits.{bit_xor, xor_zero_l, xor_zero_r}
use Rattle.std.proofs.lemmas.Nat.{xor_block}
use Rattle.gf256.specs.Field.{product}
use Rattle.gf256.proofs.Products.{product-xor_right}
use Rattle.code_lanes.specs.Tables.{IsTable}

-- a byte is the sum of its halves
halves : (x : ℕ) → x ≡ bit_xor (x % 16) (16 * (x / 16))
halves x =
    let e : bit_xor (0 * 2 ^ 4 + x % 16) (x / 16 * 2 ^ 4 + 0) ≡ bit_xor 0 (x / 16) * 2 ^ 4 + bit_xor (x % 16) 0 = xor_block 4 0 (x / 16) (x % 16) 0 (omega arith) (omega arith) in
    let low : 0 * 2 ^ 4 + x % 16 ≡ x % 16 = omega arith in
    let high : x / 16 * 2 ^ 4 + 0 ≡ 16 * (x / 16) = omega arith in
    let whole : x ≡ x / 16 * 2 ^ 4 + x % 16 = omega arith in
    whole ∙ sym (ap (λ y. y * 2 ^ 4 + bit_xor (x % 16) 0) (xor_zero_l (x / 16)) ∙ ap (λ y. x / 16 * 2 ^ 4 + y) (xor_zero_r (x % 16)))
    ∙ sym e ∙ ap (λ y. bit_xor y (x / 16 * 2 ^ 4 + 0)) low ∙ ap (λ y. bit_xor (x % 16) y) high

-- the two look-ups of a byte give its product
pub looked_up : (element : ℕ) (table : List ℕ) (x : ℕ) → IsTable element table → x < 256
    → bit_xor (get_or table (x % 16) 0) (get_or table (16 + x / 16) 0) ≡ product element x
looked_up element table x is byte =
    ap (λ y. bit_xor y (get_or table (16 + x / 16) 0)) (is.low (x % 16) (omega arith))
    ∙ ap (λ y. bit_xor (product element (x % 16)) y) (is.high (x / 16) (omega arith))
    ∙ sym (product-xor_right element (x % 16) (16 * (x / 16)))
    ∙ ap (λ y. product element y) (sym (halves x))
