-- Vectors that are sums of products over the values of several blocks, by the factors of these, and what the steps of the transform make
-- of the factors.
use Rattle.std.specs.Prelude.{ℕ, ◌+◌, ◌<◌, ◌==◌, if◌then◌else◌, List, bit_xor}
use Rattle.gf256.specs.Field.{product}
use Rattle.code_lanes.specs.Lanes.{HasLanes}
use Rattle.code_lanes.specs.Sums.{byte_of_block, sum_of_products}

-- lane k of v is the sum of the products of the factors with the values of lane k, of which there are so many
pub record IsCombination (count : ℕ) (values : ℕ → ℕ → ℕ) (factors : ℕ → ℕ) (v : List ℕ) : Type 0 where
  pub fit : (k i : ℕ) → values k i < 256
  pub bytes : (i : ℕ) → factors i < 256
  pub lanes : HasLanes v (λ k. sum_of_products factors (values k) count)

-- the bytes of each block at the lanes of a vector that begins at a place
abbrev pub values_at : ℕ → List ℕ → ℕ → ℕ → ℕ → ℕ
values_at width blocks at k = byte_of_block width (at + k) blocks

-- the factors of the value of one block
abbrev pub only : ℕ → ℕ → ℕ
only j i = if i == j then 1 else 0

-- the factors of a sum
abbrev pub added : (ℕ → ℕ) → (ℕ → ℕ) → ℕ → ℕ
added f g i = bit_xor (f i) (g i)

-- the factors of a + c * b
abbrev pub with_multiple : ℕ → (ℕ → ℕ) → (ℕ → ℕ) → ℕ → ℕ
with_multiple c f g i = bit_xor (f i) (product c (g i))

-- the factors of four vectors
pub record FourFactors : Type 0 where
  pub first : ℕ → ℕ
  pub second : ℕ → ℕ
  pub third : ℕ → ℕ
  pub fourth : ℕ → ℕ

-- four vectors have these factors
pub record AreFour (count : ℕ) (values : ℕ → ℕ → ℕ) (m : FourFactors) (a b c d : List ℕ) : Type 0 where
  pub first : IsCombination count values m.first a
  pub second : IsCombination count values m.second b
  pub third : IsCombination count values m.third c
  pub fourth : IsCombination count values m.fourth d

-- the values of four blocks
abbrev pub only_four : ℕ → FourFactors
only_four j = record { first = only j; second = only (j + 1); third = only (j + 2); fourth = only (j + 3) }

-- the two values of a + c * x, where the coefficients are a and b: a + c * b, and that plus b
abbrev pub low_value : ℕ → (ℕ → ℕ) → (ℕ → ℕ) → ℕ → ℕ
low_value c f g = with_multiple c f g

abbrev pub high_value : ℕ → (ℕ → ℕ) → (ℕ → ℕ) → ℕ → ℕ
high_value c f g = added (low_value c f g) g

-- the first coefficient for two values, of which the second is their sum
abbrev pub low_coefficient : ℕ → (ℕ → ℕ) → (ℕ → ℕ) → ℕ → ℕ
low_coefficient c f g = with_multiple c f (added f g)

-- the values of four coefficients, by the steps of two layers
abbrev pub four_values : ℕ → ℕ → ℕ → FourFactors → FourFactors
four_values outer low high m =
    let a = low_value outer m.first m.third in
    let b = low_value outer m.second m.fourth in
    let c = high_value outer m.first m.third in
    let d = high_value outer m.second m.fourth in
    record { first = low_value low a b; second = high_value low a b; third = low_value high c d; fourth = high_value high c d }

-- the coefficients for four values, by the same layers backwards
abbrev pub four_coefficients : ℕ → ℕ → ℕ → FourFactors → FourFactors
four_coefficients outer low high m =
    let a = low_coefficient low m.first m.second in
    let b = added m.first m.second in
    let c = low_coefficient high m.third m.fourth in
    let d = added m.third m.fourth in
    record { first = low_coefficient outer a c; second = low_coefficient outer b d; third = added a c; fourth = added b d }

-- the same where the constants `outer` and `low` are 0
abbrev pub first_coefficients : ℕ → FourFactors → FourFactors
first_coefficients high m =
    let b = added m.first m.second in
    let c = low_coefficient high m.third m.fourth in
    let d = added m.third m.fourth in
    record { first = m.first; second = b; third = added m.first c; fourth = added b d }

-- of four coefficients and four more: the first half of the values of each with its partner
abbrev pub lower_across : ℕ → FourFactors → FourFactors → FourFactors
lower_across c m n = record {
  first = low_coefficient c m.first n.first;
  second = low_coefficient c m.second n.second;
  third = low_coefficient c m.third n.third;
  fourth = low_coefficient c m.fourth n.fourth;
}

-- and the second half
abbrev pub upper_across : ℕ → FourFactors → FourFactors → FourFactors
upper_across c m n = record {
  first = added (low_coefficient c m.first n.first) (added m.first n.first);
  second = added (low_coefficient c m.second n.second) (added m.second n.second);
  third = added (low_coefficient c m.third n.third) (added m.third n.third);
  fourth = added (low_coefficient c m.fourth n.fourth) (added m.fourth n.fourth);
}
