-- Products by two look-ups, one for each half of a byte.
use Rattle.std.specs.Prelude.{◌≡◌, ℕ, ◌+◌, ◌*◌, ◌<◌, List, [], length, slice_index, slice_index_or}
use Rattle.gf256.specs.Field.{product}
use Rattle.code_lanes.specs.Sums.{IsTotal}

-- the products of an element with the bytes whose high half is 0, and then with those whose low half is 0
pub record IsTable (element : ℕ) (table : List ℕ) : Type 0 where
  pub byte : element < 256
  pub low : (n : ℕ) → n < 16 → slice_index table n ≡ product element n
  pub high : (n : ℕ) → n < 16 → slice_index table (16 + n) ≡ product element (16 * n)

-- there is a table for each weight, in their order
abbrev pub AreTables : List ℕ → List (List ℕ) → Type 0
AreTables weights tables = (i : ℕ) → i < length weights → IsTable (slice_index weights i) (slice_index_or tables i [])

-- there are tables for a sum with these weights, and for the sum of these
pub record AreSumTables (weights : List ℕ) (total : ℕ) (of_total : List ℕ) (of_each : List (List ℕ)) : Type 0 where
  pub is_total : IsTotal weights total
  pub whole : IsTable total of_total
  pub each : AreTables weights of_each
