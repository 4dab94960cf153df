-- The laws of shards and prints.
use Rattle.std.specs.Prelude.{◌≡◌, ◌⊎◌, ℕ, ◌*◌, ◌<◌, ◌≤◌, List, [], ◌++◌, All, Some, length, slice_get, slice_index, slice_index_or}
use Rattle.field_reader.specs.Spelling.{IsBytes}
use Rattle.sha2.specs.Sha256.{sha256}
use Rattle.poly_code.specs.Codeword.{AreDistinct, IsOfCodeword}
use Rattle.poly_code.specs.Columns.{column}
use Rattle.shard_file.specs.Shards.{AreShardBlocks}
use Rattle.shard_file.specs.Stripes.{block_size, piece, stripe_size}
use Rattle.manifest_file.specs.Print.{text_under}
use Rattle.manifest_file.specs.declared.manifest.Manifest.{Manifest}
use Rattle.body_print.specs.Clashes.{ClashesWith, IsHashed}
use Rattle.body_print.specs.Prints.{HasPrint, IsCutAs, IsJoined, IsOver, IsPrintText}
use Rattle.body_print.specs.Shards.{AreShards, AreStripeBlocks, with_blocks}

-- a body has one list of shards
abbrev pub ShardsAreOne : Type 0
ShardsAreOne = (n d : ℕ) (body : List ℕ) (a b : List (List (List ℕ))) → n ≤ 256 → d ≤ n → AreShards n d body a → AreShards n d body b → a ≡ b

-- each shard of a body has the blocks of a shard file of its length
abbrev pub ShardsHaveTheirBlocks : Type 0
ShardsHaveTheirBlocks = (n d : ℕ) (body : List ℕ) (shards : List (List (List ℕ))) (r : ℕ) → AreShards n d body shards → r < n
    → AreShardBlocks d (length body) (slice_index_or shards r [])

-- the shards of whole stripes, each with its block of one stripe more, are those of the body with that stripe
abbrev pub StripesAreAdded : Type 0
StripesAreAdded = (n d whole : ℕ) (body stripe : List ℕ) (shards : List (List (List ℕ))) (blocks : List (List ℕ))
    → length body ≡ stripe_size * whole → 0 < length stripe → length stripe ≤ stripe_size
    → AreShards n d body shards → AreStripeBlocks n d stripe blocks → AreShards n d (body ++ stripe) (with_blocks shards blocks)

-- from any d blocks of a stripe, data or parity, each block comes back
abbrev pub AnyBlocksGiveEach : Type 0
AnyBlocksGiveEach = (n d size which : ℕ) (rows bytes out stripe : List ℕ) (blocks : List (List ℕ)) → n ≤ 256 → length rows ≡ d
    → All (λ row. row < n) rows → AreDistinct rows → which < n → size ≡ block_size d (length stripe) → length out ≡ size
    → AreStripeBlocks n d stripe blocks
    → ((j : ℕ) → j < d → piece size bytes j ≡ slice_index_or blocks (slice_index rows j) [])
    → ((k : ℕ) → k < size → IsOfCodeword n d rows (column d size k bytes) which (slice_index out k))
    → out ≡ slice_index_or blocks which []

-- a body that is cut in one way has one text under its print
abbrev pub PrintTextsAreOne : Type 0
PrintTextsAreOne = (n p : ℕ) (parts : List (List ℕ)) (a b : List ℕ) → n ≤ 256 → IsPrintText n p parts a → IsPrintText n p parts b → a ≡ b

-- what is hashed for the print of a body is bytes
abbrev pub HashedAreBytes : Type 0
HashedAreBytes = (n p : ℕ) (body print bytes : List ℕ) → n ≤ 256 → IsHashed n p body print bytes → IsBytes bytes

-- where the text of a manifest is the one under the print of a body, the body is cut as the manifest says
abbrev pub TextTellsCuts : Type 0
TextTellsCuts = (n p : ℕ) (m : Manifest) (body print : List ℕ) → IsOver n p m → (has : HasPrint n p body print) → text_under m ≡ has.text
    → IsCutAs n p m.parts has.parts

-- the text of a joined manifest is the one under the print of each body that is cut into parts whose own prints are those of the manifests that it
-- joins, or the text of one of these clashes with what is hashed for the print of its part
abbrev pub JoinedPrint : Type 0
JoinedPrint = (n p : ℕ) (ones : List Manifest) (joined : Manifest) (parts : List (List ℕ)) → n ≤ 256 → IsJoined n p ones joined → length parts ≡ length ones
    → ((i : ℕ) (one : Manifest) → slice_get ones i ≡ Some one → HasPrint n p (slice_index_or parts i []) (sha256 (text_under one)))
    → IsPrintText n p parts (text_under joined)
    ⊎ ((i : ℕ) × (one : Manifest) × (slice_get ones i ≡ Some one)
    × ClashesWith n p (slice_index_or parts i []) (sha256 (text_under one)) (text_under one))
