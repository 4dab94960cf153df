-- The factors that the steps of the transform give are the weights.
use Rattle.std.proofs.Common.{◌≡◌, ℕ, ◌<◌, true, eqb, refl}
use Rattle.std.proofs.lemmas.Bool.{eqb-true}
use Rattle.gf256.specs.Field.{product, sum_of_copies, remainder}
use Rattle.gf256.proofs.Products.{all_below, all_below-at}
use Rattle.code_lanes.specs.Fold.{fold_weight}
use Rattle.code_lanes.specs.Steps.{FourFactors, added, first_coefficients, four_coefficients, four_values, low_coefficient, lower_across, only, only_four, upper_across}

-- factors that agree with the weights at each block
abbrev AreWeights : ℕ → ℕ → (ℕ → ℕ) → Type 0
AreWeights count row factors = (i : ℕ) → i < count → factors i ≡ fold_weight count row i

agree : (count row : ℕ) (factors : ℕ → ℕ) → all_below (λ i. eqb (factors i) (fold_weight count row i)) count ≡ true → AreWeights count row factors
agree count row factors holds i below =
    eqb-true (factors i) (fold_weight count row i) (all_below-at (λ i. eqb (factors i) (fold_weight count row i)) count holds i below)

-- of two blocks
pub two_low : AreWeights 2 0 (low_coefficient 2 (only 0) (only 1))
unfolding product sum_of_copies remainder
two_low = agree 2 0 _ refl

pub two_high : AreWeights 2 1 (added (low_coefficient 2 (only 0) (only 1)) (added (only 0) (only 1)))
unfolding product sum_of_copies remainder
two_high = agree 2 1 _ refl

-- of four
abbrev pub four_sums : FourFactors
four_sums = four_values 6 4 6 (first_coefficients 2 (only_four 0))

pub four_first : AreWeights 4 0 four_sums.first
unfolding product sum_of_copies remainder
four_first = agree 4 0 _ refl

pub four_second : AreWeights 4 1 four_sums.second
unfolding product sum_of_copies remainder
four_second = agree 4 1 _ refl

pub four_third : AreWeights 4 2 four_sums.third
unfolding product sum_of_copies remainder
four_third = agree 4 2 _ refl

pub four_fourth : AreWeights 4 3 four_sums.fourth
unfolding product sum_of_copies remainder
four_fourth = agree 4 3 _ refl

-- of eight
abbrev pub low_coefficients : FourFactors
low_coefficients = first_coefficients 2 (only_four 0)

abbrev pub high_coefficients : FourFactors
high_coefficients = four_coefficients 6 4 6 (only_four 4)

abbrev pub low_across : FourFactors
low_across = lower_across 22 low_coefficients high_coefficients

abbrev pub high_across : FourFactors
high_across = upper_across 22 low_coefficients high_coefficients

abbrev pub eight_low : FourFactors
eight_low = four_values 28 8 10 low_across

abbrev pub eight_high : FourFactors
eight_high = four_values 26 12 14 high_across

pub eight_low_first : AreWeights 8 0 eight_low.first
unfolding product sum_of_copies remainder
eight_low_first = agree 8 0 _ refl

pub eight_low_second : AreWeights 8 1 eight_low.second
unfolding product sum_of_copies remainder
eight_low_second = agree 8 1 _ refl

pub eight_low_third : AreWeights 8 2 eight_low.third
unfolding product sum_of_copies remainder
eight_low_third = agree 8 2 _ refl

pub eight_low_fourth : AreWeights 8 3 eight_low.fourth
unfolding product sum_of_copies remainder
eight_low_fourth = agree 8 3 _ refl

pub eight_high_first : AreWeights 8 4 eight_high.first
unfolding product sum_of_copies remainder
eight_high_first = agree 8 4 _ refl

pub eight_high_second : AreWeights 8 5 eight_high.second
unfolding product sum_of_copies remainder
eight_high_second = agree 8 5 _ refl

pub eight_high_third : AreWeights 8 6 eight_high.third
unfolding product sum_of_copies remainder
eight_high_third = agree 8 6 _ refl

pub eight_high_fourth : AreWeights 8 7 eight_high.fourth
unfolding product sum_of_copies remainder
eight_high_fourth = agree 8 7 _ refl
