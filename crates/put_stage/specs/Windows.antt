-- Windows: successive whole stripes, or one stripe, whose blocks are appended by one call a drive.
use Rattle.std.specs.Prelude.{if◌then◌else◌, ◌≡◌, ◌⊎◌, ℕ, ◌*◌, ◌%◌, ◌<◌, ◌≤◌, List, [], ◌++◌, length, map, take, drop, slice_index_or, ◌==◌}
use Rattle.std.specs.List.{concat, range_with_len}
use Rattle.sha2.specs.Sha256.{sha256}
use Rattle.body_print.specs.Shards.{AreShards}
use Rattle.shard_file.specs.Stripes.{data_blocks, piece, stripe_size}
use Rattle.put_stage.specs.StripeBlocks.{block_at}
use Rattle.put_stage.specs.declared.windows.Window.{Window}

-- the fewest stripes of n blocks that fill lanes of four with none idle
abbrev pub window_stripes : ℕ → ℕ
window_stripes n = if n % 4 == 0 then 1 else if n % 2 == 0 then 2 else 4

-- the bytes of a whole window over n drives
abbrev pub window_size : ℕ → ℕ
window_size n = stripe_size * window_stripes n

-- so many bytes are whole stripes
abbrev pub AreWholeStripes : ℕ → Type 0
AreWholeStripes long = (count : ℕ) × (long ≡ stripe_size * count)

-- of so many bytes of a body over n drives that are left, these are taken next: whole stripes, at most a window, or less than a stripe that is left
pub record IsNextLength (n left long : ℕ) : Type 0 where
  pub some : 0 < left → 0 < long
  pub within : long ≤ left
  pub few : long ≤ window_size n
  pub whole : AreWholeStripes long ⊎ ((long ≡ left) × (long < stripe_size))

-- the blocks that data drive k has of successive whole stripes, of which each has d data blocks
abbrev pub data_run : ℕ → ℕ → List ℕ → ℕ → List (List ℕ)
data_run d count bytes k = map (λ i. slice_index_or (data_blocks d (piece stripe_size bytes i)) k []) (range_with_len 0 count)

-- those of all data drives, one after another
abbrev pub data_runs : ℕ → ℕ → List ℕ → List ℕ
data_runs d count bytes = concat (map (λ k. concat (data_run d count bytes k)) (range_with_len 0 d))

-- a window of these bytes over n drives: the blocks of each drive adjoin, and so do their digests
pub record IsWindow (n d : ℕ) (bytes : List ℕ) (window : Window) : Type 0 where
  pub long : length window.blocks.items ≡ window.size * n
  pub counted : length window.digests.items ≡ window.count * n
  pub shards : List (List (List ℕ))
  pub are : AreShards n d bytes shards
  pub adjoin : (k : ℕ) → k < n → concat (slice_index_or shards k []) ≡ block_at k window
  pub digests : (k : ℕ) → k < n → take window.count (drop (window.count * k) window.digests.items) ≡ map sha256 (slice_index_or shards k [])

-- shards with the blocks of further stripes behind them
abbrev pub with_shards : List (List (List ℕ)) → List (List (List ℕ)) → List (List (List ℕ))
with_shards shards more = map (λ k. slice_index_or shards k [] ++ slice_index_or more k []) (range_with_len 0 (length shards))
