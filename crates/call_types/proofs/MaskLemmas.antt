-- A mask that a loop makes bit by bit: a bit is set exactly where a property holds of its index.
use Rattle.std.proofs.Common.{◌≡◌, ℕ, ◌+◌, ◌*◌, ◌^◌, ◌%◌, ◌<◌, ◌≤◌, ◌∙◌, ap, inl, inr, subst, sym, arith, w16}
use Rattle.std.specs.Prelude.{◌↔◌, bit_and, bit_or}
use Rattle.std.specs.Int.{IsBitSet, bit_at}
use Rattle.std.proofs.lemmas.Bool.{cases_eq}
use Rattle.std.proofs.lemmas.Nat.{or_lt, pow_below, pow_pos}
use Rattle.std.proofs.lemmas.Nat.Bits.{and_pow, bit_at-lt, bit_at_above, bit_at_set_other, bit_at_set_same}

-- the mask of the first indices
pub record MaskSoFar (is : ℕ → Type 0) (k mask : ℕ) : Type 0 where
  pub low : mask < 2 ^ k
  pub bits : (j : ℕ) → j < k → (bit_at mask j ≡ 1) ↔ is j

pub mask_none : (is : ℕ → Type 0) → MaskSoFar is 0 0
mask_none is = record { low = omega arith; bits = λ j below. absurd (omega arith) }

-- a power that fits sixteen bits
small_power : (k : ℕ) → k < 16 → 1 * 2 ^ k % 65536 ≡ 2 ^ k
small_power k low = let below : 2 ^ k < 2 ^ 16 = pow_below k 16 low in omega arith

-- an index more of which it holds
pub mask_yes : (is : ℕ → Type 0) (k mask : ℕ) → k < 16 → is k
    → MaskSoFar is k mask → MaskSoFar is (k + 1) (bit_or mask (1 * 2 ^ k % 65536))
mask_yes is k mask low holds so =
    let next : 2 ^ k < 2 ^ (k + 1) = pow_below k (k + 1) (omega arith) in
    let small : 1 * 2 ^ k % 65536 ≡ 2 ^ k = small_power k low in
    record {
      low = or_lt (k + 1) mask (1 * 2 ^ k % 65536) (omega (arith, so.low)) (omega arith);
      bits = λ j below. elim (cases_eq j k) [
        | inl same ↦ (
          λ set. subst is (sym same) holds,
          λ its. ap (bit_at (bit_or mask (1 * 2 ^ k % 65536))) same ∙ bit_at_set_same w16 mask k low,
        )
        | inr other ↦
            let apart = bit_at_set_other w16 mask k low j other in
            let before = so.bits j (omega arith) in
            (λ set. before.0 (sym apart ∙ set), λ its. apart ∙ before.1 its)
      ];
    }

-- an index more of which it doesn't hold
pub mask_no : (is : ℕ → Type 0) (k mask : ℕ) → (is k → ⊥)
    → MaskSoFar is k mask → MaskSoFar is (k + 1) mask
mask_no is k mask fails so =
    let next : 2 ^ k < 2 ^ (k + 1) = pow_below k (k + 1) (omega arith) in
    record {
      low = omega (arith, so.low);
      bits = λ j below. elim (cases_eq j k) [
        | inl same ↦
            let zero : bit_at mask j ≡ 0 = ap (bit_at mask) same ∙ bit_at_above mask k k so.low (omega arith) in
            (λ set. absurd (omega arith), λ its. absurd (fails (subst is same its)))
        | inr other ↦ so.bits j (omega arith)
      ];
    }

-- a bit is set where it is 1
bit_means : (mask k : ℕ) → IsBitSet mask k ↔ (bit_at mask k ≡ 1)
bit_means mask k =
    let power : 0 < 2 ^ k = pow_pos k in
    let value : (b : ℕ) → bit_at mask k ≡ b → bit_and mask (2 ^ k) ≡ b * 2 ^ k = (λ b its. and_pow mask k ∙ ap (λ (n : ℕ). n * 2 ^ k) its) in (
      λ set. elim (cases_eq (bit_at mask k) 1) [
        | inl one ↦ one
        | inr other ↦ absurd (set (value 0 (omega (arith, bit_at-lt mask k)) ∙ omega arith))
      ],
      λ one zero. omega (arith, value 1 one, power, zero),
    )

-- a bit of the finished mask
pub mask_bit : (is : ℕ → Type 0) (n mask : ℕ) → MaskSoFar is n mask → (k : ℕ) → k < n → IsBitSet mask k ↔ is k
mask_bit is n mask so k below =
    let means = bit_means mask k in
    let bits = so.bits k below in
    (λ set. bits.0 (means.0 set), λ its. means.1 (bits.1 its))

-- no bit is set beyond a mask's end
pub no_bit_beyond : (n mask : ℕ) → mask < 2 ^ n → (k : ℕ) → n ≤ k → IsBitSet mask k → ⊥
no_bit_beyond n mask low k beyond set = set (and_pow mask k ∙ ap (λ (b : ℕ). b * 2 ^ k) (bit_at_above mask n k low beyond) ∙ omega arith)
