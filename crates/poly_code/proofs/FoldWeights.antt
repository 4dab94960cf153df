-- The weights of a folded sum are those of interpolation.
use Rattle.std.proofs.Common.{◌≡◌, ℕ, ◌+◌, ◌<◌, ◌≤◌, ◌*◌, List, length, get_or, true, Bool, ◌||◌, eqb, take, refl, ◌⊎◌, ⊎_elim, inl, inr, ap, subst, ◌∙◌, sym, arith}
use Rattle.std.specs.Prelude.{IsTrue}
use Rattle.std.proofs.lemmas.Bool.{eqb-true, or_cases}
use Rattle.gf256.specs.Field.{power, product, sum_of_copies, remainder}
use Rattle.gf256.proofs.Products.{all_below, all_below-at}
use Rattle.code_lanes.specs.Fold.{fold_at, fold_weight, is_foldable}
use Rattle.code_lanes.specs.Sums.{sum_of_products}
use Rattle.poly_code.specs.Lagrange.{differences, inverse_of, weight}
use Rattle.poly_code.specs.declared.code.TheConstants.{ROWS}
use Rattle.poly_code.specs.Columns.{byte_of_block}
use Rattle.poly_code.proofs.ValueLemmas.{AreValues}
use Rattle.poly_code.proofs.BlockLemmas.{length-data_rows}
use Rattle.poly_code.proofs.CodewordLemmas.{data_rows-are}
use Rattle.poly_code.proofs.SumsOfWeights.{sum_is_value}

-- both weights of block i in the value at point d + p
abbrev agrees : ℕ → ℕ → ℕ → Bool
agrees d p i = eqb (fold_weight d p i) (weight (take d ROWS) i (d + p))

-- all of them, for d blocks
abbrev AllAgree : ℕ → Type 0
AllAgree d = all_below (λ p. all_below (agrees d p) d) d ≡ true

two : AllAgree 2
unfolding weight differences inverse_of power product sum_of_copies remainder
two = refl

four : AllAgree 4
unfolding weight differences inverse_of power product sum_of_copies remainder
four = refl

eight : AllAgree 8
unfolding weight differences inverse_of power product sum_of_copies remainder
eight = refl

at : (d : ℕ) → AllAgree d → (p i : ℕ) → p < d → i < d → fold_weight d p i ≡ weight (take d ROWS) i (d + p)
at d all p i p_low i_low =
    eqb-true (fold_weight d p i) (weight (take d ROWS) i (d + p))
    (all_below-at (agrees d p) d (all_below-at (λ q. all_below (agrees d q) d) d all p p_low) i i_low)

-- the numbers of blocks that can be folded are 2, 4 and 8
foldable_is : (d : ℕ) → IsTrue (is_foldable d) → (d ≡ 2) ⊎ ((d ≡ 4) ⊎ (d ≡ 8))
foldable_is d foldable = elim (or_cases (eqb d 2 || eqb d 4) (eqb d 8) foldable) [
  | inl fewer ↦ elim (or_cases (eqb d 2) (eqb d 4) fewer) [
    | inl is_2 ↦ inl (eqb-true d 2 is_2)
    | inr is_4 ↦ inr (inl (eqb-true d 4 is_4))
  ]
  | inr is_8 ↦ inr (inr (eqb-true d 8 is_8))
]

-- both weights are the same, for d blocks
abbrev AreSame : ℕ → Type 0
AreSame d = (p i : ℕ) → p < d → i < d → fold_weight d p i ≡ weight (take d ROWS) i (d + p)

weight_is : (d : ℕ) → IsTrue (is_foldable d) → AreSame d
weight_is d foldable = elim (foldable_is d foldable) [
  | inl e ↦ subst AreSame (sym e) (at 2 two)
  | inr (inl e) ↦ subst AreSame (sym e) (at 4 four)
  | inr (inr e) ↦ subst AreSame (sym e) (at 8 eight)
]

-- so folded sums are blocks of values
pub folded_values : (d p width : ℕ) (blocks out : List ℕ) → IsTrue (is_foldable d) → p ≤ d → ((i : ℕ) → get_or blocks i 0 < 256)
    → ((row k : ℕ) → row < p → k < width → get_or out (row * width + k) 0 ≡ fold_at d width blocks row k)
    → AreValues (take d ROWS) width blocks d p out
folded_values d p width blocks out foldable fewer fit made q k q_low k_low =
    let few : d ≤ 16 = ⊎_elim (λ e. omega arith) (λ more. ⊎_elim (λ e. omega arith) (λ e. omega arith) more) (foldable_is d foldable) in
    let count : length (take d ROWS) ≡ d = length-data_rows d few in
    sum_is_value (take d ROWS) (fold_weight d q) (byte_of_block width k blocks) (d + q) (get_or out (q * width + k) 0) (data_rows-are d few)
    (λ i within. fit (i * width + k)) (omega arith) (λ i within. weight_is d foldable q i (omega arith) (omega arith))
    (made q k q_low k_low ∙ ap (λ n. sum_of_products (fold_weight d q) (byte_of_block width k blocks) n) (sym count))
