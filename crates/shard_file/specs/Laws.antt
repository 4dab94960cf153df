-- The laws of stripes, blocks and shard files.
use Rattle.std.specs.Prelude.{◌≡◌, ℕ, ◌+◌, ◌*◌, ◌<◌, List, [], All, length, take, drop, map, slice_index_or}
use Rattle.std.specs.List.{concat}
use Rattle.shard_file.specs.Stripes.{piece, stripe_size, stripe_count, stripe_length, stripe_lengths, stripes, block_size, padded, data_blocks}
use Rattle.shard_file.specs.Shards.{block_place, digest_place, file_length, shard_bytes, table_of, AreShardBlocks, HoldsBlock}

-- the stripes of a body, joined, are the body
abbrev pub StripesAreTheBody : Type 0
StripesAreTheBody = (body : List ℕ) → concat (stripes body) ≡ body

-- the stripes of a body have the lengths that follow from its length
abbrev pub StripesHaveLengths : Type 0
StripesHaveLengths = (body : List ℕ) → map length (stripes body) ≡ stripe_lengths (length body)

-- the data blocks of a stripe, joined, are the stripe filled up with zeros
abbrev pub DataBlocksArePadded : Type 0
DataBlocksArePadded = (d : ℕ) (stripe : List ℕ) → 0 < d → concat (data_blocks d stripe) ≡ padded d stripe

-- from its data blocks a stripe comes back
abbrev pub DataBlocksAreTheStripe : Type 0
DataBlocksAreTheStripe =
    (d : ℕ) (stripe : List ℕ) → 0 < d → take (length stripe) (concat (data_blocks d stripe)) ≡ stripe

-- a stripe has d data blocks of one size
abbrev pub DataBlocksHaveOneSize : Type 0
DataBlocksHaveOneSize = (d : ℕ) (stripe : List ℕ) → 0 < d
    → (length (data_blocks d stripe) ≡ d) × All (λ block. length block ≡ block_size d (length stripe)) (data_blocks d stripe)

-- a shard file has the length that follows from its body's
abbrev pub ShardFilesHaveLength : Type 0
ShardFilesHaveLength = (d n : ℕ) (blocks : List (List ℕ)) → 0 < d → AreShardBlocks d n blocks → length (shard_bytes blocks) ≡ file_length d n

-- a shard file has the block of each stripe, and the block's digest, at their places
abbrev pub ShardFilesHoldBlocks : Type 0
ShardFilesHoldBlocks = (d n i : ℕ) (blocks : List (List ℕ)) → AreShardBlocks d n blocks → i < stripe_count n
    → HoldsBlock (shard_bytes blocks) (slice_index_or blocks i []) (block_place d i) (block_size d (stripe_length n i)) (digest_place d n i)

-- from the digest of a block on, a shard file has the digests of this block and the later ones, and nothing after them
abbrev pub DigestsEndTheFile : Type 0
DigestsEndTheFile = (d n i : ℕ) (blocks : List (List ℕ)) → AreShardBlocks d n blocks → i < stripe_count n
    → drop (digest_place d n i) (shard_bytes blocks) ≡ table_of (drop i blocks)

-- the blocks of successive whole stripes adjoin in a file: of those that are read together from its block i on, block j is the one at the place
-- of block i + j
abbrev pub WholeBlocksAdjoin : Type 0
WholeBlocksAdjoin = (d i count j : ℕ) (file : List ℕ) → j < count
    → piece (block_size d stripe_size) (take (count * block_size d stripe_size) (drop (block_place d i) file)) j
    ≡ take (block_size d stripe_size) (drop (block_place d (i + j)) file)

-- one block for each stripe of a body, of the size that the stripe's length asks for, are a shard's blocks
abbrev pub BodiesHaveShards : Type 0
BodiesHaveShards = (d : ℕ) (block_of : List ℕ → List ℕ) (body : List ℕ)
    → ((stripe : List ℕ) → length (block_of stripe) ≡ block_size d (length stripe))
    → AreShardBlocks d (length body) (map block_of (stripes body))
