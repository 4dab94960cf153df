-- Sums of the products of weights are the values that interpolation gives.
use Rattle.std.proofs.Common.{◌≡◌, ℕ, ◌<◌, ◌≤◌, ◌*◌, ◌+◌, List, zero, suc, refl, sym, subst, ap, ◌∙◌, arith, get_or, length, take}
use Rattle.std.proofs.lemmas.List.{get_or-take, length-take-le}
use Rattle.std.specs.Int.Bits.{bit_xor}
use Rattle.gf256.specs.Field.{product}
use Rattle.code_lanes.specs.Sums.{sum_of_products, AreSums}
use Rattle.poly_code.specs.Columns.{byte_of_block}
use Rattle.poly_code.specs.Lagrange.{IsValueThrough, weight, weighted_sum}
use Rattle.poly_code.proofs.Differences.{AreRows}
use Rattle.poly_code.proofs.Interpolation.{weighted_sum-value}

-- where the factors are the weights, the sum is the weighted one
pub sum_is_weighted : (rows : List ℕ) (weights values : ℕ → ℕ) (x n : ℕ) → ((i : ℕ) → i < n → weights i ≡ weight rows i x)
    → sum_of_products weights values n ≡ weighted_sum rows values x n
unfolding sum_of_products weighted_sum
sum_is_weighted rows weights values x zero same = refl
sum_is_weighted rows weights values x (suc i) same =
    ap (λ s. bit_xor s (product (weights i) (values i))) (sum_is_weighted rows weights values x i (λ j below. same j (omega arith)))
    ∙ ap (λ w. bit_xor (weighted_sum rows values x i) (product w (values i))) (same i (omega arith))

-- and it is the value at x of the polynomial through the values
pub sum_is_value : (rows : List ℕ) (weights values : ℕ → ℕ) (x v : ℕ) → AreRows rows → ((i : ℕ) → i < length rows → values i < 256) → x < 256
    → ((i : ℕ) → i < length rows → weights i ≡ weight rows i x) → v ≡ sum_of_products weights values (length rows) → IsValueThrough rows values x v
sum_is_value rows weights values x v are fit byte same e =
    subst (λ y. IsValueThrough rows values x y) (sym (e ∙ sum_is_weighted rows weights values x (length rows) same)) (weighted_sum-value rows values x are fit byte)

-- each byte of a block that has the sums is such a value
pub sums_are_values : (width : ℕ) (rows weights have sums : List ℕ) (x : ℕ) → AreRows rows → ((i : ℕ) → get_or have i 0 < 256) → x < 256
    → length rows ≤ length weights → ((i : ℕ) → i < length rows → get_or weights i 0 ≡ weight rows i x)
    → length sums ≡ width → AreSums (take (length rows) weights) have sums
    → (k : ℕ) → k < width → IsValueThrough rows (byte_of_block width k have) x (get_or sums k 0)
sums_are_values width rows weights have sums x are fit byte long same wide made k below =
    let count : length (take (length rows) weights) ≡ length rows = length-take-le (length rows) weights long in
    let value : get_or sums k 0 ≡ sum_of_products (λ i. get_or (take (length rows) weights) i 0) (byte_of_block width k have) (length rows) =
    made k (omega arith)
    ∙ ap (λ w. sum_of_products (λ i. get_or (take (length rows) weights) i 0) (byte_of_block w k have) (length (take (length rows) weights))) wide
    ∙ ap (λ n. sum_of_products (λ i. get_or (take (length rows) weights) i 0) (byte_of_block width k have) n) count in
    sum_is_value rows (λ i. get_or (take (length rows) weights) i 0) (byte_of_block width k have) x (get_or sums k 0) are
    (λ i within. fit (i * width + k)) byte (λ i within. get_or-take (length rows) weights i 0 within ∙ same i within) value
