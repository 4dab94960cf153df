-- Pieces of a shard file: its digest table, its blocks and their digests, and where it doesn't end.
use Rattle.std.proofs.Common.{◌≡◌, ◌∙◌, ◌+◌, ◌-◌, ◌*◌, ◌<◌, ◌≤◌, ℕ, List, [], ◌++◌, drop, length, slice_index_or, take, ap, inl, inr, sym, arith}
use Rattle.std.specs.List.{concat}
use Rattle.std.proofs.lemmas.Bool.{cases_lt}
use Rattle.std.proofs.lemmas.List.{drop-drop, drop-take, length-append, length-drop, length-take, take-take, take_all}
use Rattle.sha2.specs.Sha256.{sha256}
use Rattle.shard_file.specs.Shards.{AreShardBlocks, block_place, shard_bytes, table_of, table_place}
use Rattle.shard_file.specs.Stripes.{block_size, stripe_count, stripe_length}
use Rattle.shard_file.proofs.ShardLemmas.{concat_around, digests_end_the_file, length-front, length-shard, length-shard_block, length-table_of, shard_files_have_length, shard_files_hold_blocks}

-- a piece of a piece of a file is one of the file
pub piece_of_piece : (file more bytes : List ℕ) (from gap place : ℕ) → more ≡ take (length more) (drop from file) → place ≡ from + gap
    → bytes ≡ take (length bytes) (drop gap more) → bytes ≡ take (length bytes) (drop place file)
piece_of_piece file more bytes from gap place is place_is piece =
    let counted = ap (length {A = ℕ}) piece in
    let taken = length-take (length bytes) (drop gap more) in
    let dropped = length-drop gap more in
    let short : length bytes ≤ length more - gap = omega (arith, counted, taken, dropped) in
    elim (cases_lt gap (length more)) [
      | inl within ↦
          let rest = length more - gap in
          let sum : length more ≡ gap + rest = omega (arith, within) in
          let inner : drop gap more ≡ take rest (drop gap (drop from file)) =
          ap (drop gap) (is ∙ ap (λ (n : ℕ). take n (drop from file)) sum) ∙ drop-take gap rest (drop from file) in
          piece ∙ (ap (take (length bytes)) inner
          ∙ (take-take (length bytes) rest (drop gap (drop from file)) short
          ∙ ap (take (length bytes)) (drop-drop gap from file ∙ ap (λ (n : ℕ). drop n file) (sym place_is))))
      | inr past ↦
          let none : length bytes ≡ 0 = omega (arith, past, short) in
          piece ∙ (ap (λ (n : ℕ). take n (drop gap more)) none ∙ ap (λ (n : ℕ). take n (drop place file)) (sym none))
    ]

module _ (d n : ℕ) (blocks : List (List ℕ)) (fit : AreShardBlocks d n blocks) where
  -- from its place on the file is its digest table
  at_table : 0 < stripe_count n → drop (table_place d n) (shard_bytes blocks) ≡ table_of blocks
  at_table some = ap (λ (place : ℕ). drop place (shard_bytes blocks)) (omega arith) ∙ digests_end_the_file d n 0 blocks fit some

  pub table_is : (table : List ℕ) → 0 < stripe_count n → length table ≡ 32 * stripe_count n
      → table ≡ take (length table) (drop (table_place d n) (shard_bytes blocks)) → table ≡ table_of blocks
  table_is table some size piece =
      let long = length-table_of blocks in
      let count = length-shard d n blocks fit in
      piece ∙ (ap (take (length table)) (at_table some) ∙ take_all (length table) (table_of blocks) (omega (arith, long, count, size)))

  module _ (i : ℕ) (low : i < stripe_count n) where
    pub block_is : (block : List ℕ) → length block ≡ block_size d (stripe_length n i)
        → block ≡ take (length block) (drop (block_place d i) (shard_bytes blocks)) → block ≡ slice_index_or blocks i []
    block_is block size piece =
        piece ∙ (ap (λ (long : ℕ). take long (drop (block_place d i) (shard_bytes blocks))) size
        ∙ (shard_files_hold_blocks d n i blocks fit low).block)

    pub digest_is : take 32 (drop (32 * i) (table_of blocks)) ≡ sha256 (slice_index_or blocks i [])
    digest_is =
        ap (λ (table : List ℕ). take 32 (drop (32 * i) table)) (sym (at_table (omega (arith, low))))
        ∙ (ap (take 32) (drop-drop (32 * i) (table_place d n) (shard_bytes blocks)) ∙ (shard_files_hold_blocks d n i blocks fit low).digest)

    -- and it has the block whole
    pub block_within : block_place d i + block_size d (stripe_length n i) ≤ length (shard_bytes blocks)
    block_within =
        let count = length-shard d n blocks fit in
        let front = length-front d n blocks i fit (omega (arith, low)) in
        let size = length-shard_block d n blocks i fit low in
        let parts = ap (length {A = ℕ}) (concat_around blocks i (omega (arith, low, count))) in
        let first = length-append (concat (take i blocks)) (slice_index_or blocks i [] ++ concat (drop (i + 1) blocks)) in
        let second = length-append (slice_index_or blocks i []) (concat (drop (i + 1) blocks)) in
        let all = length-append (concat blocks) (table_of blocks) in
        omega (arith, front, size, parts, first, second, all)

  -- and the table
  pub table_within : 0 < d → table_place d n + 32 * stripe_count n ≤ length (shard_bytes blocks)
  table_within some = (let long = shard_files_have_length d n blocks some fit in omega (arith, long))
