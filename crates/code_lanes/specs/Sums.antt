-- Sums of products over blocks of one width that stand one after another.
use Rattle.std.specs.Prelude.{◌≡◌, ℕ, ◌+◌, ◌*◌, ◌<◌, ◌≤◌, ◌⊎◌, List, length, slice_index, bit_xor}
use Rattle.std.proofs.Common.{zero, suc}
use Rattle.gf256.specs.Field.{product}

-- the sum of the products of the first n factors with the first n values
unfoldable pub sum_of_products : (ℕ → ℕ) → (ℕ → ℕ) → ℕ → ℕ
sum_of_products factors values zero = 0
sum_of_products factors values (suc i) = bit_xor (sum_of_products factors values i) (product (factors i) (values i))

-- byte k of block i
abbrev pub byte_of_block : ℕ → ℕ → List ℕ → ℕ → ℕ
byte_of_block width k blocks i = slice_index blocks (i * width + k)

-- the sum over the blocks of weight i times byte k of block i
abbrev pub sum_at : List ℕ → ℕ → List ℕ → ℕ → ℕ
sum_at weights width blocks k = sum_of_products (slice_index weights) (byte_of_block width k blocks) (length weights)

-- an element is the sum of the weights: its product with any other is the sum of theirs
abbrev pub IsTotal : List ℕ → ℕ → Type 0
IsTotal weights total = (x : ℕ) → product total x ≡ sum_of_products (slice_index weights) (λ _. x) (length weights)

-- each byte of a block is the sum at its place
abbrev pub AreSums : List ℕ → List ℕ → List ℕ → Type 0
AreSums weights blocks sums = (k : ℕ) → k < length sums → slice_index sums k ≡ sum_at weights (length sums) blocks k

-- each byte from one place up to another has gained the product of an element with the byte of another block at its place, and no
-- other byte has changed
pub record AreAdded (by low high : ℕ) (from old new : List ℕ) : Type 0 where
  pub gained : (k : ℕ) → low ≤ k → k < high → slice_index new k ≡ bit_xor (slice_index old k) (product by (slice_index from k))
  pub same : (k : ℕ) → (k < low) ⊎ (high ≤ k) → slice_index new k ≡ slice_index old k
