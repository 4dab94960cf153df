-- Where blocks and digests stand in a shard file.
use Rattle.std.proofs.Common.{◌≡◌, ℕ, zero, suc, ◌+◌, ◌-◌, ◌*◌, ◌/◌, ◌%◌, ◌<◌, ◌≤◌, ◌∙◌, List, [], ◌∷◌, ◌++◌, length, slice_index_or, take, drop, map, ap, inl, inr, refl, subst, sym, arith}
use Rattle.std.specs.List.{concat}
use Rattle.std.proofs.Math.Nat.{mul-le-mul_left, mul-le-mul_right, zero-div, zero-mod}
use Rattle.std.proofs.Math.Numerals.{add-one}
use Rattle.std.proofs.lemmas.Bool.{cases_eq, cases_lt}
use Rattle.std.proofs.lemmas.List.{append-nil, append_assoc, drop-drop, drop-take, drop_at, drop_more, get_or-map, length-append, length-map, length-take-le, map-append, take-append-drop, take-take, take_all, take_at, take_more}
use Rattle.std.proofs.lemmas.List.Folds.{concat-append}
use Rattle.std.proofs.lemmas.List.FromFn.{get_or-map-range_with_len, length-map-range_with_len}
use Rattle.std.proofs.lemmas.Nat.{mul-le}
use Rattle.sha2.proofs.Facts256.{length-sha256}
use Rattle.sha2.specs.Sha256.{sha256}
use Rattle.shard_file.specs.Laws.{BodiesHaveShards, DigestsEndTheFile, ShardFilesHaveLength, ShardFilesHoldBlocks, WholeBlocksAdjoin}
use Rattle.shard_file.specs.Shards.{block_place, digest_place, table_of, table_place, shard_bytes, AreShardBlocks}
use Rattle.shard_file.specs.Stripes.{piece, stripe_size, stripe_count, stripe_length, stripe_lengths, stripes, block_size}
use Rattle.shard_file.proofs.Pieces.{map_map, map_same}
use Rattle.shard_file.proofs.StripeLemmas.{stripes_have_lengths}

-- a shard has a block for each stripe
pub length-shard : (d n : ℕ) (blocks : List (List ℕ)) → AreShardBlocks d n blocks → length blocks ≡ stripe_count n
length-shard d n blocks fit =
    sym (length-map blocks (length {A = ℕ})) ∙ ap length fit ∙ length-map (stripe_lengths n) (block_size d)
    ∙ length-map-range_with_len (stripe_length n) 0 (stripe_count n)

-- the length of the block of a stripe
pub length-shard_block : (d n : ℕ) (blocks : List (List ℕ)) (i : ℕ) → AreShardBlocks d n blocks → i < stripe_count n
    → length (slice_index_or blocks i []) ≡ block_size d (stripe_length n i)
length-shard_block d n blocks i fit low =
    let long = length-shard d n blocks fit in
    let count = length-map-range_with_len (stripe_length n) 0 (stripe_count n) in
    sym (get_or-map (length {A = ℕ}) blocks i [] 0 (omega arith))
    ∙ ap (λ (lengths : List ℕ). slice_index_or lengths i 0) fit
    ∙ get_or-map (block_size d) (stripe_lengths n) i 0 0 (omega arith)
    ∙ ap (block_size d) (get_or-map-range_with_len (stripe_length n) 0 (stripe_count n) i i 0 low (omega arith))

-- the first blocks and one more, joined
pub concat-take_more : (blocks : List (List ℕ)) (k : ℕ) → k < length blocks
    → concat (take (k + 1) blocks) ≡ concat (take k blocks) ++ slice_index_or blocks k []
concat-take_more blocks k low = rw (take_more blocks k [] low, concat-append, append-nil) refl

-- blocks of whole stripes have one length
pub length-front : (d n : ℕ) (blocks : List (List ℕ)) (k : ℕ) → AreShardBlocks d n blocks → stripe_size * k ≤ n
    → length (concat (take k blocks)) ≡ k * block_size d stripe_size
length-front d n blocks zero fit whole = omega arith
length-front d n blocks (suc k) fit whole =
    let below : k < stripe_count n = omega arith in
    let long = length-shard d n blocks fit in
    let size = block_size d stripe_size in
    let stripe : stripe_length n k ≡ stripe_size = omega arith in
    let block : length (slice_index_or blocks k []) ≡ size =
    length-shard_block d n blocks k fit below ∙ ap (block_size d) stripe in
    let front = length-front d n blocks k fit (omega arith) in
    let longer : (k + 1) * size ≡ k * size + size = omega arith in
    let both : length (concat (take (k + 1) blocks)) ≡ (k + 1) * size =
    rw (concat-take_more blocks k (omega arith), length-append, front, block, longer) refl in
    subst (λ (m : ℕ). length (concat (take m blocks)) ≡ m * block_size d stripe_size) (add-one k) both

-- the digests of so many blocks, joined
pub length-table_of : (blocks : List (List ℕ)) → length (table_of blocks) ≡ 32 * length blocks
length-table_of [] = refl
length-table_of (block ∷ blocks) =
    length-append (sha256 block) (table_of blocks) ∙ omega (arith, length-sha256 block, length-table_of blocks)

-- the blocks of a shard, cut before a block and after it
pub concat_around : (blocks : List (List ℕ)) (k : ℕ) → k < length blocks
    → concat blocks ≡ concat (take k blocks) ++ (slice_index_or blocks k [] ++ concat (drop (k + 1) blocks))
concat_around blocks k low =
    ap concat (sym (take-append-drop k blocks)) ∙ concat-append (take k blocks) (drop k blocks)
    ∙ ap (λ (rest : List (List ℕ)). concat (take k blocks) ++ concat rest) (drop_more blocks k [] low)

-- the digest table, cut before a block's digest
pub table_around : (blocks : List (List ℕ)) (k : ℕ) → table_of blocks ≡ table_of (take k blocks) ++ table_of (drop k blocks)
table_around blocks k =
    ap table_of (sym (take-append-drop k blocks)) ∙ ap concat (map-append sha256 (take k blocks) (drop k blocks))
    ∙ concat-append (map sha256 (take k blocks)) (map sha256 (drop k blocks))

-- how many stripes there are, by the place of the last one
pub count_by_last : (n : ℕ) → 0 < n → stripe_count n ≡ (n - 1) / stripe_size + 1
count_by_last n some = omega arith

-- the blocks of a shard, joined: those of whole stripes, and the last one
pub length-blocks : (d n : ℕ) (blocks : List (List ℕ)) (last : ℕ) → AreShardBlocks d n blocks → stripe_size * last < n
    → n ≤ stripe_size * (last + 1)
    → length (concat blocks) ≡ last * block_size d stripe_size + block_size d (n - last * stripe_size)
length-blocks d n blocks last fit below above =
    let long = length-shard d n blocks fit in
    let count : stripe_count n ≡ last + 1 = omega arith in
    let rest : stripe_length n last ≡ n - last * stripe_size = omega arith in
    let block : length (slice_index_or blocks last []) ≡ block_size d (n - last * stripe_size) =
    length-shard_block d n blocks last fit (omega arith) ∙ ap (block_size d) rest in
    let front = length-front d n blocks last fit (omega arith) in
    ap (λ (all : List (List ℕ)). length (concat all)) (sym (take_all (last + 1) blocks (omega arith)))
    ∙ ap length (concat-take_more blocks last (omega arith))
    ∙ length-append (concat (take last blocks)) (slice_index_or blocks last [])
    ∙ omega (arith, front, block)

-- no bytes need a block of none
block_size-zero : (d : ℕ) → block_size d 0 ≡ 0
block_size-zero d = rw (zero-div d, zero-mod d) refl

-- the length of the blocks, told by whole stripes and what is left
length-blocks_by_rest : (d n : ℕ) (blocks : List (List ℕ)) → AreShardBlocks d n blocks
    → length (concat blocks) ≡ n / stripe_size * block_size d stripe_size + block_size d (n % stripe_size)
length-blocks_by_rest d n blocks fit = elim (cases_eq (n % stripe_size) 0) [
  | inl none ↦
      let q = n / stripe_size in
      let count : stripe_count n ≤ q = omega arith in
      ap (λ (all : List (List ℕ)). length (concat all)) (sym (take_all q blocks (omega (arith, length-shard d n blocks fit))))
      ∙ length-front d n blocks q fit (omega arith)
      ∙ omega (arith, block_size-zero d, ap (block_size d) none)
  | inr some ↦
      let q = n / stripe_size in
      let rest : n - q * stripe_size ≡ n % stripe_size = omega arith in
      length-blocks d n blocks q fit (omega arith) (omega arith) ∙ omega (arith, ap (block_size d) rest)
]

pub shard_files_have_length : ShardFilesHaveLength
shard_files_have_length d n blocks some fit =
    length-append (concat blocks) (table_of blocks)
    ∙ omega (arith, length-blocks_by_rest d n blocks fit, length-table_of blocks, length-shard d n blocks fit)

pub digests_end_the_file : DigestsEndTheFile
digests_end_the_file d n i blocks fit low =
    let long = length-shard d n blocks fit in
    let all = length-blocks_by_rest d n blocks fit in
    let before : length (table_of (take i blocks)) ≡ 32 * i =
    length-table_of (take i blocks) ∙ ap (λ (m : ℕ). 32 * m) (length-take-le i blocks (omega arith)) in
    let place : length (concat blocks) + 32 * i ≡ digest_place d n i = ap (λ (m : ℕ). m + 32 * i) all in
    ap (λ (m : ℕ). drop m (shard_bytes blocks)) (sym place)
    ∙ sym (drop-drop (32 * i) (length (concat blocks)) (shard_bytes blocks))
    ∙ ap (drop (32 * i)) (drop_at (concat blocks) (table_of blocks) (length (concat blocks)) refl)
    ∙ ap (drop (32 * i)) (table_around blocks i)
    ∙ drop_at (table_of (take i blocks)) (table_of (drop i blocks)) (32 * i) before

pub shard_files_hold_blocks : ShardFilesHoldBlocks
shard_files_hold_blocks d n i blocks fit low =
    let within : i < length blocks = omega (arith, length-shard d n blocks fit) in
    let block = slice_index_or blocks i [] in
    let long = block_size d (stripe_length n i) in
    let before = concat (take i blocks) in
    let after = concat (drop (i + 1) blocks) in
    let long_before : length before ≡ block_place d i = length-front d n blocks i fit (omega arith) in
    let long_block : length block ≡ long = length-shard_block d n blocks i fit low in
    let file : shard_bytes blocks ≡ before ++ (block ++ (after ++ table_of blocks)) =
    ap (λ (front : List ℕ). front ++ table_of blocks) (concat_around blocks i within)
    ∙ simp append_assoc in
    record {
      size = long_block;
      block = ap (λ (bytes : List ℕ). take long (drop (block_place d i) bytes)) file
          ∙ ap (take long) (drop_at before (block ++ (after ++ table_of blocks)) (block_place d i) long_before)
          ∙ take_at block (after ++ table_of blocks) long long_block;
      digest = ap (take 32) (digests_end_the_file d n i blocks fit low)
          ∙ ap (λ (rest : List (List ℕ)). take 32 (table_of rest)) (drop_more blocks i [] within)
          ∙ take_at (sha256 block) (table_of (drop (i + 1) blocks)) 32 (length-sha256 block);
    }

-- a piece of the front of a file from a place on
pub piece_of_front : (size at count j : ℕ) (file : List ℕ) → j < count
    → piece size (take (count * size) (drop at file)) j ≡ take size (drop (at + size * j) file)
piece_of_front size at count j file low =
    let ends : size * (j + 1) ≤ size * count = mul-le-mul_left size (omega arith) in
    let split : size * (j + 1) ≡ size * j + size = omega arith in
    let turn : count * size ≡ size * count = omega arith in
    let left : size ≤ count * size - size * j = omega arith in
    let sum : count * size ≡ size * j + (count * size - size * j) = omega arith in
    ap (λ (m : ℕ). take size (drop (size * j) (take m (drop at file)))) sum
    ∙ ap (take size) (drop-take (size * j) (count * size - size * j) (drop at file))
    ∙ take-take size (count * size - size * j) (drop (size * j) (drop at file)) left
    ∙ ap (take size) (drop-drop (size * j) at file)

pub whole_blocks_adjoin : WholeBlocksAdjoin
whole_blocks_adjoin d i count j file low =
    let size = block_size d stripe_size in
    let place : block_place d i + size * j ≡ block_place d (i + j) = omega arith in
    piece_of_front size (block_place d i) count j file low ∙ ap (λ (m : ℕ). take size (drop m file)) place

-- the bytes of the blocks, told by the last stripe
pub table_place-last : (d n last : ℕ) → stripe_size * last < n → n ≤ stripe_size * (last + 1)
    → last * block_size d stripe_size + block_size d (n - last * stripe_size) ≡ table_place d n
table_place-last d n last below above = elim (cases_eq (n % stripe_size) 0) [
  | inl none ↦
      let all : n / stripe_size ≡ last + 1 = omega arith in
      let rest : n - last * stripe_size ≡ stripe_size = omega arith in
      omega (arith, ap (block_size d) rest, ap (block_size d) none, block_size-zero d, ap (λ (m : ℕ). m * block_size d stripe_size) all)
  | inr some ↦
      let all : n / stripe_size ≡ last = omega arith in
      let rest : n - last * stripe_size ≡ n % stripe_size = omega arith in
      omega (arith, ap (block_size d) rest, ap (λ (m : ℕ). m * block_size d stripe_size) all)
]

-- a block has at most half a stripe's bytes, rounded up
pub half_block : (d n size : ℕ) → 2 ≤ d → d * size < n + d → size + size ≤ n + 1
half_block d n size enough few =
    elim (cases_lt (n + 1) (size + size)) [
      | inl more ↦
          let before = size - 1 in
          let one_more : d * size ≡ d * (before + 1) = ap (λ (m : ℕ). d * m) (omega arith) in
          absurd (omega (arith, one_more, mul-le 2 before d before enough (omega arith)))
      | inr within ↦ within
    ]

-- the blocks of whole stripes have fewer than 2^63 bytes
pub small_front : (count whole : ℕ) → count ≤ 17592186044415 → whole ≤ 524288 → count * whole ≤ 9223372036854251520
small_front count whole few small = omega (arith, mul-le count whole 17592186044415 524288 few small)

-- a block ends where the next one begins, or where the digests do
pub block_before_table : (last k whole end long : ℕ) → k ≤ last → (k < last → long ≡ whole) → (k ≡ last → long ≡ end)
    → k * whole + long ≤ last * whole + end
block_before_table last k whole end long low inner outer =
    elim (cases_lt k last) [
      | inl before ↦ omega (arith, mul-le-mul_right {m = k + 1} {n = last} whole (omega arith), inner before)
      | inr at ↦
          let same : k ≡ last = omega arith in
          omega (arith, outer same, ap (λ (m : ℕ). m * whole) same)
    ]

pub bodies_have_shards : BodiesHaveShards
bodies_have_shards d block_of body long =
    map_map block_of length (stripes body)
    ∙ map_same (λ stripe. length (block_of stripe)) (λ stripe. block_size d (length stripe)) (stripes body) long
    ∙ sym (map_map length (block_size d) (stripes body))
    ∙ ap (map (block_size d)) (stripes_have_lengths body)
