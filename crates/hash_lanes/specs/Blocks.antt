-- Blocks and their digests.
use Rattle.std.specs.Prelude.{ℕ, ◌*◌, List, take, drop, map}
use Rattle.std.specs.Borrow.{Bor}
use Rattle.std.specs.List.{range_with_len}
use Rattle.sha2.specs.Sha256.{sha256}

-- the digest of each block of a slice of blocks
abbrev pub digests_of : List (Bor (List ℕ)) → List (List ℕ)
digests_of blocks = map (λ block. sha256 block.now) blocks

-- block i of a buffer that has blocks of `size` bytes one after another
abbrev pub block_at : ℕ → List ℕ → ℕ → List ℕ
block_at size bytes i = take size (drop (size * i) bytes)

-- the digest of each of the first `count` blocks of such a buffer
abbrev pub block_digests : ℕ → List ℕ → ℕ → List (List ℕ)
block_digests size bytes count = map (λ i. sha256 (block_at size bytes i)) (range_with_len 0 count)
