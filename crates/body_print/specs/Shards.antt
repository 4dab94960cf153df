-- The shards of a body: the blocks of each stripe over the drives of a set.
use Rattle.std.specs.Prelude.{◌≡◌, ℕ, ◌<◌, List, [], ◌∷◌, ◌++◌, All, length, take, map, slice_index, slice_index_or}
use Rattle.std.specs.List.{range_with_len}
use Rattle.shard_file.specs.Shards.{root_of}
use Rattle.shard_file.specs.Stripes.{piece, stripe_size, stripe_count, block_size, data_blocks}
use Rattle.poly_code.specs.Codeword.{Codeword}

-- the n blocks of a stripe: its d data blocks first, all of one size, and byte by byte a codeword
pub record AreStripeBlocks (n d : ℕ) (stripe : List ℕ) (blocks : List (List ℕ)) : Type 0 where
  pub count : length blocks ≡ n
  pub sizes : All (λ block. length block ≡ block_size d (length stripe)) blocks
  pub front : take d blocks ≡ data_blocks d stripe
  pub columns : (k : ℕ) → k < block_size d (length stripe) → Codeword n d (map (λ block. slice_index block k) blocks)

-- the n shards of a body, each the list of its blocks, one for each stripe
pub record AreShards (n d : ℕ) (body : List ℕ) (shards : List (List (List ℕ))) : Type 0 where
  pub count : length shards ≡ n
  pub blocks : All (λ shard. length shard ≡ stripe_count (length body)) shards
  pub stripes : (i : ℕ) → i < stripe_count (length body)
      → AreStripeBlocks n d (piece stripe_size body i) (map (λ shard. slice_index_or shard i []) shards)

-- the roots of a body's shards
abbrev pub HasRoots : ℕ → ℕ → List ℕ → List (List ℕ) → Type 0
HasRoots n d body roots = (shards : List (List (List ℕ))) × AreShards n d body shards × (roots ≡ map root_of shards)

-- shards that have each got one block more, of these blocks
abbrev pub with_blocks : List (List (List ℕ)) → List (List ℕ) → List (List (List ℕ))
with_blocks shards blocks = map (λ r. slice_index_or shards r [] ++ slice_index_or blocks r [] ∷ []) (range_with_len 0 (length shards))
