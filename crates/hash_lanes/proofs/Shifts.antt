-- Shifts and rotations of the four lanes of a vector.
use Rattle.std.proofs.Common.{◌≡◌, ℕ, ◌<◌, ◌-◌, ◌*◌, ◌/◌, ◌%◌, ◌^◌, List, [], ◌∷◌, length, slice_index, bit_or, arith, refl, replicate, ◌∙◌, ap}
use Rattle.std.specs.Int.{w32, rotate_right}
use Rattle.std.specs.Simd.Lanes.{zip2}
use Rattle.std.proofs.lemmas.Simd.{get_or-zip2, get_or-replicate}

-- each lane of four, shifted by one distance
pub shifted : (f : ℕ → ℕ → ℕ) (k : ℕ) (x : List ℕ) → length x ≡ 4 → (j : ℕ) → j < 4
    → slice_index (zip2 f x (k ∷ k ∷ k ∷ k ∷ [])) j ≡ f (slice_index x j) k
shifted f k x four j low =
    get_or-zip2 f x (replicate 4 k) j 0 0 0 (omega arith) low
    ∙ ap (f (slice_index x j)) (get_or-replicate 4 j k 0 low)

-- a word's two shifts are its rotation
pub rotated : (k x r l o : ℕ) → 0 < k → k < 32 → r ≡ x / 2 ^ k → l ≡ x * 2 ^ (32 - k) % 2 ^ 32 → o ≡ bit_or r l
    → o ≡ rotate_right w32 x k
rotated k x r l o low high er el eo =
    let right : k % 32 ≡ k = omega arith in
    let left : (32 - k) % 32 ≡ 32 - k = omega arith in
    rw (eo, er, el, right, left) refl
