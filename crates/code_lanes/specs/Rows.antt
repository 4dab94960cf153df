-- Sums for several blocks of a target, 32 places of each at a time.
use Rattle.std.specs.Prelude.{◌≡◌, ℕ, ◌+◌, ◌*◌, ◌<◌, ◌≤◌, ◌⊎◌, List, slice_index}
use Rattle.code_lanes.specs.Lanes.{HasLanes}

-- four vectors are those of the blocks from `row` on, at the places from `at` on
pub record AreRows (sums : ℕ → ℕ → ℕ) (row at : ℕ) (a b c d : List ℕ) : Type 0 where
  pub first : HasLanes a (λ k. sums row (at + k))
  pub second : HasLanes b (λ k. sums (row + 1) (at + k))
  pub third : HasLanes c (λ k. sums (row + 2) (at + k))
  pub fourth : HasLanes d (λ k. sums (row + 3) (at + k))

-- each block is made from the place `end` on, and those below `row` at the 32 places from `at` on too
abbrev pub AreMade : (ℕ → ℕ → ℕ) → ℕ → ℕ → ℕ → ℕ → ℕ → List ℕ → Type 0
AreMade sums width rows end row at out =
    (r k : ℕ) → r < rows → k < width → (end ≤ k) ⊎ ((r < row) × (at ≤ k) × (k < at + 32)) → slice_index out (r * width + k) ≡ sums r k
