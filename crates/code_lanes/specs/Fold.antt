-- Sums over 2, 4 or 8 blocks, as many or fewer, in which the weight of a block depends on the exclusive or of the numbers of the sum and
-- of the block alone.
use Rattle.std.specs.Prelude.{ℕ, List, [], ◌∷◌, Bool, ◌==◌, ◌||◌, if◌then◌else◌, slice_index, bit_xor}
use Rattle.code_lanes.specs.Sums.{byte_of_block, sum_of_products}

-- the numbers of blocks for which there are such weights
abbrev pub is_foldable : ℕ → Bool
is_foldable count = count == 2 || count == 4 || count == 8

-- the weights of the blocks in sum 0
abbrev pub first_weights : ℕ → List ℕ
first_weights count =
    if count == 2 then 3 ∷ 2 ∷ [] else
    if count == 4 then 27 ∷ 28 ∷ 18 ∷ 20 ∷ [] else
    26 ∷ 132 ∷ 186 ∷ 51 ∷ 231 ∷ 16 ∷ 198 ∷ 39 ∷ []

-- the weight of block i in a sum
abbrev pub fold_weight : ℕ → ℕ → ℕ → ℕ
fold_weight count row i = slice_index (first_weights count) (bit_xor row i)

-- byte k of a sum
abbrev pub fold_at : ℕ → ℕ → List ℕ → ℕ → ℕ → ℕ
fold_at count width blocks row k = sum_of_products (fold_weight count row) (byte_of_block width k blocks) count
