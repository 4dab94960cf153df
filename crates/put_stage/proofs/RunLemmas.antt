-- The data blocks of whole stripes, as they are added one after another.
use Rattle.std.proofs.Common.{◌≡◌, ℕ, ◌+◌, ◌-◌, ◌*◌, ◌<◌, ◌≤◌, min, ◌∙◌, List, [], ◌∷◌, ◌++◌, length, slice_index, slice_index_or, take, drop, map, replicate, ap, refl, inl, inr, sym, arith, append-nil, append_assoc}
use Rattle.std.specs.List.{concat, range_with_len}
use Rattle.std.proofs.lemmas.Bool.{cases_lt}
use Rattle.std.proofs.lemmas.Grind.{same_number_lists}
use Rattle.std.proofs.lemmas.List.{get_or-append_right, get_or-drop, get_or-replicate, get_or-take, get_or_append_left, get_or_past, length-append, length-drop, length-replicate, length-take, take_all}
use Rattle.std.proofs.lemmas.List.Folds.{concat-append}
use Rattle.std.proofs.lemmas.List.FromFn.{map-range_with_len_more}
use Rattle.shard_file.proofs.Pieces.{get_or-pieces, length-piece}
use Rattle.shard_file.proofs.StripeLemmas.{blocks_reach}
use Rattle.shard_file.specs.Stripes.{block_size, data_blocks, padded, piece, stripe_size}
use Rattle.put_stage.specs.Windows.{data_run}
use Rattle.put_stage.proofs.CodingLemmas.{byte_of_piece, piece_ends}

-- zeros behind bytes are read where no byte is
zeros_behind : (bytes : List ℕ) (count i : ℕ) → slice_index (bytes ++ replicate count 0) i ≡ slice_index bytes i
zeros_behind bytes count i = elim (cases_lt i (length bytes)) [
  | inl low ↦ get_or_append_left bytes (replicate count 0) 0 i low
  | inr past ↦
      get_or-append_right bytes (replicate count 0) (length bytes) i 0 refl past
      ∙ elim (cases_lt (i - length bytes) count) [
        | inl within ↦ get_or-replicate count (i - length bytes) 0 0 within
        | inr beyond ↦ get_or_past (replicate count 0) (i - length bytes) 0 (omega (arith, length-replicate {A = ℕ} count 0, beyond))
      ]
      ∙ sym (get_or_past bytes i 0 past)
]

-- a piece of bytes with zeros behind them is what the bytes have of it, with zeros behind that
piece_filled : (size k gap from to : ℕ) (bytes : List ℕ) → from ≡ min (length bytes) (size * k) → to ≡ min (length bytes) (from + size)
    → size * (k + 1) ≤ length bytes + gap
    → take (to - from) (drop from bytes) ++ replicate (size - (to - from)) 0 ≡ piece size (bytes ++ replicate gap 0) k
piece_filled size k gap from to bytes from_is to_is within =
    let cut = take (to - from) (drop from bytes) in
    let zeros : List ℕ = replicate (size - (to - from)) 0 in
    let all = bytes ++ replicate gap 0 in
    let next : size * (k + 1) ≡ size * k + size = omega arith in
    let cut_long : length cut ≡ to - from = length-take (to - from) (drop from bytes) ∙ omega (arith, length-drop from bytes, from_is, to_is) in
    let left_long : length (cut ++ zeros) ≡ size =
    length-append cut zeros ∙ omega (arith, cut_long, length-replicate {A = ℕ} (size - (to - from)) 0, from_is, to_is) in
    let all_long : length all ≡ length bytes + gap = length-append bytes (replicate gap 0) ∙ ap (λ (m : ℕ). length bytes + m) (length-replicate {A = ℕ} gap 0) in
    let right_long : length (piece size all k) ≡ size = length-piece size all k ∙ omega (arith, all_long, within, next) in
    same_number_lists (cut ++ zeros) (piece size all k) (left_long ∙ sym right_long)
    (λ i below.
    let inside : i < size = omega (arith, left_long, below) in
    zeros_behind cut (size - (to - from)) i
    ∙ elim (cases_lt i (to - from)) [
      | inl low ↦
          let at : from + i ≡ size * k + i = omega (arith, low, from_is, to_is) in
          get_or-take (to - from) (drop from bytes) i 0 low ∙ get_or-drop from bytes i 0 ∙ ap (slice_index bytes) at
      | inr past ↦
          get_or_past cut i 0 (omega (arith, cut_long, past)) ∙ sym (get_or_past bytes (size * k + i) 0 (omega (arith, past, from_is, to_is, inside)))
    ]
    ∙ sym (zeros_behind bytes gap (size * k + i))
    ∙ sym (byte_of_piece size k i all inside))

-- a data block is added: what the stripe has of it, filled up with zeros
pub block_added : (d k size from to had end : ℕ) (stripe old first new : List ℕ) → 0 < d → k < d → size ≡ block_size d (length stripe)
    → from ≡ min (length stripe) (size * k) → to ≡ min (length stripe) (from + size) → first ≡ old ++ take (to - from) (drop from stripe)
    → had ≡ length first → end ≡ length old + size → new ≡ take end first ++ replicate (end - had) 0
    → new ≡ old ++ slice_index_or (data_blocks d stripe) k []
block_added d k size from to had end stripe old first new some low sized from_is to_is first_is had_is end_is new_is =
    let cut = take (to - from) (drop from stripe) in
    let cut_long : length cut ≡ to - from = length-take (to - from) (drop from stripe) ∙ omega (arith, length-drop from stripe, from_is, to_is) in
    let first_long : length first ≡ length old + (to - from) = ap (length {A = ℕ}) first_is ∙ length-append old cut ∙ ap (λ (m : ℕ). length old + m) cut_long in
    let gap = d * block_size d (length stripe) - length stripe in
    let times : d * size ≡ d * block_size d (length stripe) = ap (λ (m : ℕ). d * m) sized in
    let reach : length stripe ≤ d * block_size d (length stripe) = blocks_reach d (length stripe) some in
    let ends : size * (k + 1) ≤ size * d = piece_ends size k d low in
    let turned : size * d ≡ d * size = omega arith in
    let left : end - had ≡ size - (to - from) = omega (arith, had_is, end_is, first_long) in
    new_is
    ∙ ap (λ (bytes : List ℕ). bytes ++ replicate (end - had) 0) (take_all end first (omega (arith, end_is, first_long, to_is, from_is)) ∙ first_is)
    ∙ append_assoc old cut (replicate (end - had) 0)
    ∙ ap (λ (m : ℕ). old ++ (cut ++ replicate m 0)) left
    ∙ ap (λ (bytes : List ℕ). old ++ bytes)
    (piece_filled size k gap from to stripe from_is to_is (omega (arith, ends, turned, times, reach))
    ∙ ap (λ (m : ℕ). piece m (padded d stripe) k) sized
    ∙ sym (get_or-pieces (block_size d (length stripe)) d (padded d stripe) k [] low))

-- one list more
joined_more : (f : ℕ → List ℕ) (n : ℕ) → concat (map f (range_with_len 0 (n + 1))) ≡ concat (map f (range_with_len 0 n)) ++ f n
joined_more f n =
    ap concat (map-range_with_len_more f 0 n n (omega arith))
    ∙ concat-append (map f (range_with_len 0 n)) (f n ∷ [])
    ∙ ap (λ (last : List ℕ). concat (map f (range_with_len 0 n)) ++ last) (append-nil (f n))

-- a stripe of the bytes, as it is cut out of them
stripe_cut : (at i : ℕ) (bytes : List ℕ) → at ≡ i * stripe_size → take (at + stripe_size - at) (drop at bytes) ≡ piece stripe_size bytes i
stripe_cut at i bytes is =
    let long : at + stripe_size - at ≡ stripe_size = omega arith in
    let place : at ≡ stripe_size * i = omega (arith, is) in
    ap (λ (n : ℕ). take n (drop at bytes)) long ∙ ap (λ (m : ℕ). take stripe_size (drop m bytes)) place

-- the block that a drive has of one stripe more
pub run_more : (d k i at : ℕ) (bytes first old new : List ℕ) → at ≡ i * stripe_size → old ≡ first ++ concat (data_run d i bytes k)
    → new ≡ old ++ slice_index_or (data_blocks d (take (at + stripe_size - at) (drop at bytes))) k [] → new ≡ first ++ concat (data_run d (i + 1) bytes k)
run_more d k i at bytes first old new is before added =
    added
    ∙ ap (λ (stripe : List ℕ). old ++ slice_index_or (data_blocks d stripe) k []) (stripe_cut at i bytes is)
    ∙ ap (λ (front : List ℕ). front ++ slice_index_or (data_blocks d (piece stripe_size bytes i)) k []) before
    ∙ append_assoc first (concat (data_run d i bytes k)) (slice_index_or (data_blocks d (piece stripe_size bytes i)) k [])
    ∙ ap (λ (back : List ℕ). first ++ back) (sym (joined_more (λ (i : ℕ). slice_index_or (data_blocks d (piece stripe_size bytes i)) k []) i))

-- those of one drive more
pub runs_more : (f : ℕ → List ℕ) (k : ℕ) (first old new : List ℕ) → old ≡ first ++ concat (map f (range_with_len 0 k)) → new ≡ old ++ f k
    → new ≡ first ++ concat (map f (range_with_len 0 (k + 1)))
runs_more f k first old new before added =
    added
    ∙ ap (λ (front : List ℕ). front ++ f k) before
    ∙ append_assoc first (concat (map f (range_with_len 0 k))) (f k)
    ∙ ap (λ (back : List ℕ). first ++ back) (sym (joined_more f k))
