-- What a shard file holds, and where.
use Rattle.std.specs.Prelude.{◌≡◌, ℕ, ◌+◌, ◌*◌, ◌/◌, ◌%◌, List, ◌++◌, length, take, drop, map}
use Rattle.std.specs.List.{concat}
use Rattle.sha2.specs.Sha256.{sha256}
use Rattle.shard_file.specs.Stripes.{block_size, stripe_count, stripe_lengths, stripe_size}

-- the digest table of blocks: the SHA-256 of each, joined
abbrev pub table_of : List (List ℕ) → List ℕ
table_of blocks = concat (map sha256 blocks)

-- the shard file of blocks: the blocks in the order of their stripes, then their digests in the same order
abbrev pub shard_bytes : List (List ℕ) → List ℕ
shard_bytes blocks = concat blocks ++ table_of blocks

-- the root of a shard: the SHA-256 of its digest table
abbrev pub root_of : List (List ℕ) → List ℕ
root_of blocks = sha256 (table_of blocks)

-- blocks that have the lengths of one shard's: one block for each stripe of a body of n bytes, of which each stripe has d of data
abbrev pub AreShardBlocks : ℕ → ℕ → List (List ℕ) → Type 0
AreShardBlocks d n blocks = map length blocks ≡ map (block_size d) (stripe_lengths n)

-- where the block of stripe i begins in a shard file, where a stripe has d data blocks: after those of the whole stripes before it
abbrev pub block_place : ℕ → ℕ → ℕ
block_place d i = i * block_size d stripe_size

-- where the digest table begins in the shard file of a body of n bytes: after the blocks of the whole stripes and that of what is left
abbrev pub table_place : ℕ → ℕ → ℕ
table_place d n = n / stripe_size * block_size d stripe_size + block_size d (n % stripe_size)

-- where the digest of the block of stripe i begins
abbrev pub digest_place : ℕ → ℕ → ℕ → ℕ
digest_place d n i = table_place d n + 32 * i

-- the length of the shard file of a body of n bytes: its blocks, and 32 bytes for each
abbrev pub file_length : ℕ → ℕ → ℕ
file_length d n = table_place d n + 32 * stripe_count n

-- a file has a block of `long` bytes at one place, and the SHA-256 of that block at another
pub record HoldsBlock (file bytes : List ℕ) (at long digest_at : ℕ) : Type 0 where
  pub size : length bytes ≡ long
  pub block : take long (drop at file) ≡ bytes
  pub digest : take 32 (drop digest_at file) ≡ sha256 bytes
