-- Lagrange's interpolation over the field, as the functions of this crate compute it.
use Rattle.std.specs.Prelude.{◌≡◌, ℕ, ◌<◌, ◌==◌, List, length, slice_index, bit_xor, if◌then◌else◌}
use Rattle.std.proofs.Common.{zero, suc}
use Rattle.gf256.specs.Field.{product, power}
use Rattle.gf256.specs.Polynomial.{value_at, AreElements}

-- the product of the differences of x from the first n rows but row i
unfoldable pub differences : List ℕ → ℕ → ℕ → ℕ → ℕ
differences rows i x zero = 1
differences rows i x (suc j) = if j == i then differences rows i x j else product (differences rows i x j) (bit_xor x (slice_index rows j))

-- the inverse of an element that is not 0, which is its power of exponent 254
unfoldable pub inverse_of : ℕ → ℕ
inverse_of a = power a 254

-- how often the value at row i is counted in the value at x
unfoldable pub weight : List ℕ → ℕ → ℕ → ℕ
weight rows i x = product (differences rows i x (length rows)) (inverse_of (differences rows i (slice_index rows i) (length rows)))

-- the sum of the weighted values at the first n rows
unfoldable pub weighted_sum : List ℕ → (ℕ → ℕ) → ℕ → ℕ → ℕ
weighted_sum rows values x zero = 0
weighted_sum rows values x (suc i) = bit_xor (weighted_sum rows values x i) (product (weight rows i x) (values i))

-- v is the value at x of every polynomial with as many coefficients as there are rows that has these values at the rows
abbrev pub IsValueThrough : List ℕ → (ℕ → ℕ) → ℕ → ℕ → Type 0
IsValueThrough rows values x v =
    (c : List ℕ) → AreElements c → length c ≡ length rows →
    ((i : ℕ) → i < length rows → value_at c (slice_index rows i) ≡ values i) →
    v ≡ value_at c x
