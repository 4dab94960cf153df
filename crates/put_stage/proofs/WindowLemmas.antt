-- The blocks of successive whole stripes, coded side by side, are the shards of these stripes.
use Rattle.std.proofs.Common.{◌≡◌, ℕ, zero, suc, ◌+◌, ◌-◌, ◌*◌, ◌<◌, ◌≤◌, min, ◌∙◌, List, [], ◌∷◌, ◌++◌, length, slice_index, slice_index_or, take, drop, map, ap, refl, subst, sym, arith, append-nil}
use Rattle.std.specs.Prelude.{All}
use Rattle.std.specs.List.{concat, range_with_len}
use Rattle.std.proofs.Math.Seq.{drop-append-add, drop-drop}
use Rattle.std.proofs.lemmas.Grind.{same_number_lists}
use Rattle.std.proofs.lemmas.List.{drop-map, drop-take, get_or-drop, get_or-map, get_or-take, get_or_default, length-append, length-drop, length-map, length-take, same_lists, take-map, take-take, take_all, take_at}
use Rattle.std.proofs.lemmas.List.FromFn.{get_or-map-range_with_len, length-map-range_with_len}
use Rattle.poly_code.specs.Codeword.{Codeword}
use Rattle.poly_code.specs.Columns.{column}
use Rattle.shard_file.proofs.Pieces.{concat-pieces, get_or-pieces, length-pieces, length-whole_piece}
use Rattle.shard_file.proofs.StripeLemmas.{data_blocks_have_one_size}
use Rattle.shard_file.specs.Stripes.{block_size, data_blocks, piece, pieces, stripe_count, stripe_size}
use Rattle.body_print.specs.Shards.{AreShards, AreStripeBlocks}
use Rattle.body_print.proofs.ShardLemmas.{stripe_of}
use Rattle.sha2.specs.Sha256.{sha256}
use Rattle.put_stage.specs.StripeBlocks.{IsCoded}
use Rattle.put_stage.specs.Windows.{IsWindow, data_run, data_runs}
use Rattle.put_stage.specs.declared.windows.Stripe.{Stripe}
use Rattle.put_stage.specs.declared.windows.Window.{Window}
use Rattle.put_stage.proofs.CodingLemmas.{byte_of_piece, column_of_blocks, piece_ends, piece_of_front}

-- lists of one length, joined
joined_long : (size : ℕ) (xs : List (List ℕ)) → All (λ (x : List ℕ). length x ≡ size) xs → length (concat xs) ≡ size * length xs
joined_long size [] sized = let none : size * 0 ≡ 0 = omega arith in sym none
joined_long size (x ∷ xs) sized =
    let more : size * (length xs + 1) ≡ size * length xs + size = omega arith in
    let first : length x ≡ size = sized 0 [] (omega arith) in
    let rest : length (concat xs) ≡ size * length xs = joined_long size xs (λ k e below. sized (suc k) e (omega arith)) in
    length-append x (concat xs) ∙ omega (arith, first, rest, more)

-- and each is a piece of what is joined
piece_of_joined : (size : ℕ) (xs : List (List ℕ)) (i : ℕ) → All (λ (x : List ℕ). length x ≡ size) xs → i < length xs
    → piece size (concat xs) i ≡ slice_index_or xs i []
piece_of_joined size [] i sized low = absurd (omega arith)
piece_of_joined size (x ∷ xs) zero sized low =
    let none : size * 0 ≡ 0 = omega arith in
    ap (λ (m : ℕ). take size (drop m (x ++ concat xs))) none ∙ take_at x (concat xs) size (sized 0 [] (omega arith))
piece_of_joined size (x ∷ xs) (suc i) sized low =
    let first : length x ≡ size = sized 0 [] (omega arith) in
    let split : size * (i + 1) ≡ size + size * i = omega arith in
    let at : size * suc i ≡ length x + size * i = omega (arith, first, split) in
    ap (λ (m : ℕ). take size (drop m (x ++ concat xs))) at
    ∙ ap (take size) (drop-append-add x (concat xs) (size * i))
    ∙ piece_of_joined size xs i (λ k e below. sized (suc k) e (omega arith)) (omega arith)

-- a piece of a piece
piece_of_piece : (size count k i : ℕ) (bytes : List ℕ) → i < count → piece size (piece (size * count) bytes k) i ≡ piece size bytes (count * k + i)
piece_of_piece size count k i bytes low =
    let rest = drop (size * count * k) bytes in
    let ends : size * (i + 1) ≤ size * count = piece_ends size i count low in
    let next : size * (i + 1) ≡ size * i + size = omega arith in
    let split : size * count ≡ size * i + (size * count - size * i) = omega (arith, ends, next) in
    let place : size * count * k + size * i ≡ size * (count * k + i) = omega arith in
    ap (λ (n : ℕ). take size (drop (size * i) (take n rest))) split
    ∙ ap (take size) (drop-take (size * i) (size * count - size * i) rest)
    ∙ take-take size (size * count - size * i) (drop (size * i) rest) (omega (arith, ends, next))
    ∙ ap (take size) (drop-drop (size * i) (size * count * k) bytes ∙ ap (λ (m : ℕ). drop m bytes) place)

-- the blocks that a data drive has of whole stripes
module _ (d count : ℕ) (bytes : List ℕ) (some : 0 < d) (whole : length bytes ≡ stripe_size * count) where
  abbrev block_of : ℕ → ℕ → List ℕ
  block_of k i = slice_index_or (data_blocks d (piece stripe_size bytes i)) k []

  stripe_long : (i : ℕ) → i < count → length (piece stripe_size bytes i) ≡ stripe_size
  stripe_long i low = length-whole_piece stripe_size count bytes i low whole

  block_long : (k i : ℕ) → k < d → i < count → length (block_of k i) ≡ block_size d stripe_size
  block_long k i low inside =
      let stripe = piece stripe_size bytes i in
      let all = data_blocks_have_one_size d stripe some in
      all.1 k [] (omega (arith, all.0, low)) ∙ ap (block_size d) (stripe_long i inside)

  run_long : (k : ℕ) → k < d → length (concat (data_run d count bytes k)) ≡ block_size d stripe_size * count
  run_long k low =
      let counted : length (data_run d count bytes k) ≡ count = length-map-range_with_len (block_of k) 0 count in
      joined_long (block_size d stripe_size) (data_run d count bytes k)
      (λ i e below.
      let inside : i < count = omega (arith, counted, below) in
      ap (length {A = ℕ}) (get_or-map-range_with_len (block_of k) 0 count i i e inside (omega arith)) ∙ block_long k i low inside)
      ∙ ap (λ (m : ℕ). block_size d stripe_size * m) counted

  runs_sized : All (λ (run : List ℕ). length run ≡ block_size d stripe_size * count) (map (λ k. concat (data_run d count bytes k)) (range_with_len 0 d))
  runs_sized k e below =
      let low : k < d = omega (arith, length-map-range_with_len (λ k. concat (data_run d count bytes k)) 0 d, below) in
      ap (length {A = ℕ}) (get_or-map-range_with_len (λ k. concat (data_run d count bytes k)) 0 d k k e low (omega arith)) ∙ run_long k low

  pub runs_long : length (data_runs d count bytes) ≡ block_size d stripe_size * count * d
  runs_long =
      joined_long (block_size d stripe_size * count) (map (λ k. concat (data_run d count bytes k)) (range_with_len 0 d)) runs_sized
      ∙ ap (λ (m : ℕ). block_size d stripe_size * count * m) (length-map-range_with_len (λ k. concat (data_run d count bytes k)) 0 d)

  block_among : (k i : ℕ) → k < d → i < count
      → piece (block_size d stripe_size) (piece (block_size d stripe_size * count) (data_runs d count bytes) k) i ≡ block_of k i
  block_among k i low inside =
      let b = block_size d stripe_size in
      let runs = map (λ k. concat (data_run d count bytes k)) (range_with_len 0 d) in
      let run : piece (b * count) (data_runs d count bytes) k ≡ concat (data_run d count bytes k) =
      piece_of_joined (b * count) runs k runs_sized (omega (arith, length-map-range_with_len (λ k. concat (data_run d count bytes k)) 0 d, low))
      ∙ get_or-map-range_with_len (λ k. concat (data_run d count bytes k)) 0 d k k [] low (omega arith) in
      let counted : length (data_run d count bytes k) ≡ count = length-map-range_with_len (block_of k) 0 count in
      ap (λ (r : List ℕ). piece b r i) run
      ∙ piece_of_joined b (data_run d count bytes k) i
      (λ j e below.
      let within : j < count = omega (arith, counted, below) in
      ap (length {A = ℕ}) (get_or-map-range_with_len (block_of k) 0 count j j e within (omega arith)) ∙ block_long k j low within)
      (omega (arith, counted, inside))
      ∙ get_or-map-range_with_len (block_of k) 0 count i i [] inside (omega arith)

-- the blocks of n drives in a buffer of runs of `count` blocks each
abbrev pub runs_of : ℕ → ℕ → ℕ → List ℕ → List (List (List ℕ))
runs_of b count n all = map (pieces b count) (pieces (b * count) n all)

module _ (b count n : ℕ) (all : List ℕ) where
  length-runs_of : length (runs_of b count n all) ≡ n
  length-runs_of = length-map (pieces (b * count) n all) (pieces b count) ∙ length-pieces (b * count) n all

  pub run_at : (k : ℕ) (default : List (List ℕ)) → k < n → slice_index_or (runs_of b count n all) k default ≡ pieces b count (piece (b * count) all k)
  run_at k default low =
      get_or-map (pieces b count) (pieces (b * count) n all) k [] default (omega (arith, length-pieces (b * count) n all, low))
      ∙ ap (pieces b count) (get_or-pieces (b * count) n all k [] low)

  pub adjoined : (k : ℕ) → k < n → length all ≡ b * count * n → concat (slice_index_or (runs_of b count n all) k []) ≡ piece (b * count) all k
  adjoined k low long =
      ap concat (run_at k [] low) ∙ concat-pieces b count (piece (b * count) all k)
      ∙ take_all (b * count) (piece (b * count) all k) (omega (arith, length-whole_piece (b * count) n all k low long))

  block_in : (k i : ℕ) → k < n → i < count → slice_index_or (slice_index_or (runs_of b count n all) k []) i [] ≡ piece b (piece (b * count) all k) i
  block_in k i low inside =
      ap (λ (run : List (List ℕ)). slice_index_or run i []) (run_at k [] low) ∙ get_or-pieces b count (piece (b * count) all k) i [] inside

  pub digests_adjoin : (k : ℕ) → k < n → take count (drop (count * k) (map sha256 (pieces b (count * n) all))) ≡ map sha256 (slice_index_or (runs_of b count n all) k [])
  digests_adjoin k low =
      let every = pieces b (count * n) all in
      let mine = pieces b count (piece (b * count) all k) in
      let ends : count * (k + 1) ≤ count * n = piece_ends count k n low in
      let next : count * (k + 1) ≡ count * k + count = omega arith in
      let taken : length (take count (drop (count * k) every)) ≡ min count (length (drop (count * k) every)) = length-take count (drop (count * k) every) in
      let dropped : length (drop (count * k) every) ≡ length every - count * k = length-drop (count * k) every in
      let long : length every ≡ count * n = length-pieces b (count * n) all in
      let counted : length (take count (drop (count * k) every)) ≡ count = omega (arith, taken, dropped, long, ends, next) in
      let same : take count (drop (count * k) every) ≡ mine =
      same_lists (take count (drop (count * k) every)) mine (counted ∙ sym (length-pieces b count (piece (b * count) all k)))
      (λ i e below.
      let inside : i < count = omega (arith, counted, below) in
      get_or-take count (drop (count * k) every) i e inside
      ∙ get_or-drop (count * k) every i e
      ∙ get_or-pieces b (count * n) all (count * k + i) e (omega (arith, ends, next, inside))
      ∙ sym (piece_of_piece b count k i all inside)
      ∙ sym (get_or-pieces b count (piece (b * count) all k) i e inside)) in
      ap (take count) (drop-map sha256 (count * k) every)
      ∙ take-map sha256 count (drop (count * k) every)
      ∙ ap (map sha256) (same ∙ sym (run_at k [] low))

  -- the blocks of a stripe
  stripe_run : (i : ℕ) → i < count → stripe_of i (runs_of b count n all) ≡ map (λ (run : List ℕ). piece b run i) (pieces (b * count) n all)
  stripe_run i inside =
      let runs = pieces (b * count) n all in
      let at : List (List ℕ) → List ℕ = λ (shard : List (List ℕ)). slice_index_or shard i [] in
      let counted : length runs ≡ n = length-pieces (b * count) n all in
      let left : length (stripe_of i (runs_of b count n all)) ≡ length (runs_of b count n all) = length-map (runs_of b count n all) at in
      same_lists (stripe_of i (runs_of b count n all)) (map (λ (run : List ℕ). piece b run i) runs)
      (left ∙ length-runs_of ∙ sym (length-map runs (λ (run : List ℕ). piece b run i) ∙ counted))
      (λ r e below.
      let low : r < n = omega (arith, left, length-runs_of, below) in
      get_or-map at (runs_of b count n all) r [] e (omega (arith, length-runs_of, low))
      ∙ block_in r i low inside
      ∙ ap (λ (run : List ℕ). piece b run i) (sym (get_or-pieces (b * count) n all r [] low))
      ∙ sym (get_or-map (λ (run : List ℕ). piece b run i) runs r [] e (omega (arith, counted, low))))

-- whole stripes of which the data blocks stand side by side, with the parity behind them, have these shards
pub runs_are_shards : (n d p count : ℕ) (bytes out : List ℕ) → d + p ≡ n → 0 < d → length bytes ≡ stripe_size * count
    → length out ≡ block_size d stripe_size * count * p
    → ((k : ℕ) → k < block_size d stripe_size * count
    → Codeword n d (column d (block_size d stripe_size * count) k (data_runs d count bytes) ++ column p (block_size d stripe_size * count) k out))
    → AreShards n d bytes (runs_of (block_size d stripe_size) count n (data_runs d count bytes ++ out))
runs_are_shards n d p count bytes out sum some whole out_long words =
    let b = block_size d stripe_size in
    let size = b * count in
    let front = data_runs d count bytes in
    let all = front ++ out in
    let shards = runs_of b count n all in
    let front_long : length front ≡ size * d = runs_long d count bytes some whole in
    let spread : size * (d + p) ≡ size * n = ap (λ (m : ℕ). size * m) sum in
    let parts : size * (d + p) ≡ size * d + size * p = omega arith in
    let all_long : length all ≡ size * n = length-append front out ∙ omega (arith, front_long, out_long, spread, parts) in
    let many : stripe_count (length bytes) ≡ count = omega (arith, whole) in
    record {
      count = length-runs_of b count n all;
      blocks = λ r e below.
          let low : r < n = omega (arith, length-runs_of b count n all, below) in
          ap (length {A = List ℕ}) (run_at b count n all r e low) ∙ length-pieces b count (piece size all r) ∙ sym many;
      stripes = λ i below. let inside : i < count = omega (arith, many, below) in stripe_here i inside;
    }
  where
    stripe_here : (i : ℕ) → i < count
        → AreStripeBlocks n d (piece stripe_size bytes i) (stripe_of i (runs_of (block_size d stripe_size) count n (data_runs d count bytes ++ out)))
    stripe_here i inside =
        let b = block_size d stripe_size in
        let size = b * count in
        let front = data_runs d count bytes in
        let all = front ++ out in
        let runs = pieces size n all in
        let of : List ℕ → List ℕ = λ (run : List ℕ). piece b run i in
        let stripe = piece stripe_size bytes i in
        let front_long : length front ≡ size * d = runs_long d count bytes some whole in
        let spread : size * (d + p) ≡ size * n = ap (λ (m : ℕ). size * m) sum in
        let parts : size * (d + p) ≡ size * d + size * p = omega arith in
        let all_long : length all ≡ size * n = length-append front out ∙ omega (arith, front_long, out_long, spread, parts) in
        let counted : length runs ≡ n = length-pieces size n all in
        let mapped : length (map of runs) ≡ n = length-map runs of ∙ counted in
        let sized : block_size d (length stripe) ≡ b = ap (block_size d) (stripe_long d count bytes some whole i inside) in
        let there : (r : ℕ) (e : List ℕ) → r < n → slice_index_or (map of runs) r e ≡ piece b (piece size all r) i =
        λ r e low. get_or-map of runs r [] e (omega (arith, counted, low)) ∙ ap of (get_or-pieces size n all r [] low) in
        let ends : b * (i + 1) ≤ b * count = piece_ends b i count inside in
        let next : b * (i + 1) ≡ b * i + b = omega arith in
        let data_count : length (data_blocks d stripe) ≡ d = (data_blocks_have_one_size d stripe some).0 in
        let fewer : d ≤ n = omega (arith, sum) in
        let taken : length (take d (map of runs)) ≡ d = length-take d (map of runs) ∙ omega (arith, mapped, fewer) in
        subst (AreStripeBlocks n d stripe) (sym (stripe_run b count n all i inside))
        (record {
          count = mapped;
          sizes = λ r e below.
              let low : r < n = omega (arith, mapped, below) in
              ap (length {A = ℕ}) (there r e low)
              ∙ length-whole_piece b count (piece size all r) i inside (length-whole_piece size n all r low all_long) ∙ sym sized;
          front = same_lists (take d (map of runs)) (data_blocks d stripe) (taken ∙ sym data_count)
              (λ r e below.
              let low : r < d = omega (arith, taken, below) in
              get_or-take d (map of runs) r e low
              ∙ there r e (omega (arith, low, fewer))
              ∙ ap of (piece_of_front size r front out (omega (arith, front_long, piece_ends size r d low)))
              ∙ block_among d count bytes some whole r i low inside
              ∙ default_of (data_blocks d stripe) r e (omega (arith, data_count, low)));
          columns = λ k below.
              let low : k < b = omega (arith, sized, below) in
              let within : b * i + k < size = omega (arith, ends, next, low) in
              let at : List ℕ → ℕ = λ (block : List ℕ). slice_index block k in
              let at_run : List ℕ → ℕ = λ (run : List ℕ). slice_index run (b * i + k) in
              let same : map at_run runs ≡ map at (map of runs) =
              same_number_lists (map at_run runs) (map at (map of runs)) (length-map runs at_run ∙ sym (length-map (map of runs) at ∙ length-map runs of))
              (λ r under.
              let row : r < n = omega (arith, length-map runs at_run, counted, under) in
              get_or-map at_run runs r [] 0 (omega (arith, counted, row))
              ∙ sym (byte_of_piece b i k (slice_index_or runs r []) low)
              ∙ ap at (sym (get_or-map of runs r [] [] (omega (arith, counted, row))))
              ∙ sym (get_or-map at (map of runs) r [] 0 (omega (arith, mapped, row)))) in
              subst (Codeword n d) (column_of_blocks d p n size (b * i + k) front out sum front_long within ∙ same) (words (b * i + k) within);
        })
      where
        default_of : (xs : List (List ℕ)) (r : ℕ) (e : List ℕ) → r < length xs → slice_index_or xs r [] ≡ slice_index_or xs r e
        default_of xs r e low = get_or_default xs r [] e low

-- a window of whole stripes
pub is_window : (n d p count : ℕ) (bytes out : List ℕ) (window : Window) → d + p ≡ n → 0 < d → length bytes ≡ stripe_size * count
    → window.count ≡ count → window.size ≡ block_size d stripe_size * count → window.blocks.items ≡ data_runs d count bytes ++ out
    → length out ≡ block_size d stripe_size * count * p
    → ((k : ℕ) → k < block_size d stripe_size * count
    → Codeword n d (column d (block_size d stripe_size * count) k (data_runs d count bytes) ++ column p (block_size d stripe_size * count) k out))
    → window.digests.items ≡ map sha256 (pieces (block_size d stripe_size) (count * n) window.blocks.items)
    → IsWindow n d bytes window
is_window n d p count bytes out window sum some whole counted sized blocks out_long words digests =
    let b = block_size d stripe_size in
    let size = b * count in
    let front = data_runs d count bytes in
    let all = front ++ out in
    let front_long : length front ≡ size * d = runs_long d count bytes some whole in
    let spread : size * (d + p) ≡ size * n = ap (λ (m : ℕ). size * m) sum in
    let parts : size * (d + p) ≡ size * d + size * p = omega arith in
    let all_long : length all ≡ size * n = length-append front out ∙ omega (arith, front_long, out_long, spread, parts) in
    let wide : window.size * n ≡ size * n = ap (λ (m : ℕ). m * n) sized in
    let lanes : window.count * n ≡ count * n = ap (λ (m : ℕ). m * n) counted in
    let digests_are : window.digests.items ≡ map sha256 (pieces b (count * n) all) =
    digests ∙ ap (λ (bytes : List ℕ). map sha256 (pieces b (count * n) bytes)) blocks in
    record {
      long = ap (length {A = ℕ}) blocks ∙ all_long ∙ sym wide;
      counted = ap (length {A = List ℕ}) digests_are ∙ length-map (pieces b (count * n) all) sha256 ∙ length-pieces b (count * n) all ∙ sym lanes;
      shards = runs_of b count n all;
      are = runs_are_shards n d p count bytes out sum some whole out_long words;
      adjoin = λ k low.
          adjoined b count n all k low all_long
          ∙ ap (λ (m : ℕ). piece m all k) (sym sized) ∙ ap (λ (bytes : List ℕ). piece window.size bytes k) (sym blocks);
      digests = λ k low.
          ap (λ (m : ℕ). take m (drop (m * k) window.digests.items)) counted
          ∙ ap (λ (all : List (List ℕ)). take count (drop (count * k) all)) digests_are ∙ digests_adjoin b count n all k low;
    }

-- a window as it is coded: its runs of so many bytes stand in front of the parity
pub coded_runs : (n d p count width : ℕ) (bytes front out : List ℕ) (window : Window) → d + p ≡ n → 0 < d → length bytes ≡ stripe_size * count
    → width ≡ block_size d stripe_size * count → front ≡ data_runs d count bytes
    → window.count ≡ count → window.size ≡ width → window.blocks.items ≡ front ++ out → length out ≡ width * p
    → ((k : ℕ) → k < width → Codeword n d (column d width k front ++ column p width k out))
    → window.digests.items ≡ map sha256 (pieces (block_size d stripe_size) (count * n) window.blocks.items)
    → IsWindow n d bytes window
coded_runs n d p count width bytes front out window sum some whole wide front_is counted sized blocks out_long words digests =
    let size = block_size d stripe_size * count in
    let long : width * p ≡ size * p = ap (λ (m : ℕ). m * p) wide in
    is_window n d p count bytes out window sum some whole counted (sized ∙ wide)
    (blocks ∙ ap (λ (f : List ℕ). f ++ out) front_is) (out_long ∙ long)
    (λ k low.
    subst (λ (w : ℕ). Codeword n d (column d w k (data_runs d count bytes) ++ column p w k out)) wide
    (subst (λ (f : List ℕ). Codeword n d (column d width k f ++ column p width k out)) front_is (words k (omega (arith, wide, low)))))
    digests

-- a window of one stripe
pub is_window_of_one : (n d : ℕ) (stripe : List ℕ) (coded : Stripe) (window : Window) → 0 < length stripe → length stripe ≤ stripe_size → IsCoded n d stripe coded
    → window ≡ record { count = 1; size = coded.size; blocks = coded.blocks; digests = coded.digests } → IsWindow n d stripe window
is_window_of_one n d stripe coded window some few is same =
    let size = coded.size in
    let all = coded.blocks.items in
    let blocks = pieces size n all in
    let alone : List ℕ → List (List ℕ) = λ (block : List ℕ). block ∷ [] in
    let shards = map alone blocks in
    let counted : length blocks ≡ n = length-pieces size n all in
    let many : length shards ≡ n = length-map blocks alone ∙ counted in
    let one : stripe_count (length stripe) ≡ 1 = omega (arith, some, few) in
    let there : (k : ℕ) (e : List (List ℕ)) → k < n → slice_index_or shards k e ≡ piece size all k ∷ [] =
    λ k e low. get_or-map alone blocks k [] e (omega (arith, counted, low)) ∙ ap alone (get_or-pieces size n all k [] low) in
    let first : List (List ℕ) → List ℕ = λ (shard : List (List ℕ)). slice_index_or shard 0 [] in
    let row : stripe_of 0 shards ≡ blocks =
    same_lists (stripe_of 0 shards) blocks (length-map shards first ∙ many ∙ sym counted)
    (λ k e below.
    let low : k < n = omega (arith, length-map shards first, many, below) in
    get_or-map first shards k [] e (omega (arith, many, low)) ∙ ap first (there k [] low) ∙ sym (get_or-pieces size n all k e low)) in
    let whole : piece stripe_size stripe 0 ≡ stripe = take_all stripe_size stripe few in
    let window_is : IsWindow n d stripe (record { count = 1; size = coded.size; blocks = coded.blocks; digests = coded.digests }) =
    record {
      long = is.long;
      counted = ap (length {A = List ℕ}) is.digests ∙ length-map blocks sha256 ∙ counted ∙ omega arith;
      shards = shards;
      are = record {
        count = many;
        blocks = λ k e below. ap (length {A = List ℕ}) (there k e (omega (arith, many, below))) ∙ sym one;
        stripes = λ i below.
            let at : 0 ≡ i = omega (arith, one, below) in
            subst (λ (m : ℕ). AreStripeBlocks n d (piece stripe_size stripe m) (stripe_of m shards)) at
            (subst (λ (bytes : List ℕ). AreStripeBlocks n d bytes (stripe_of 0 shards)) (sym whole)
            (subst (AreStripeBlocks n d stripe) (sym row) is.blocks));
      };
      adjoin = λ k low. ap concat (there k [] low) ∙ append-nil (piece size all k);
      digests = λ k low.
          let place : 1 * k ≡ k = omega arith in
          ap (λ (m : ℕ). take 1 (drop m coded.digests.items)) place
          ∙ ap (λ (digests : List (List ℕ)). take 1 (drop k digests)) is.digests
          ∙ one_of (map sha256 blocks) k (omega (arith, length-map blocks sha256, counted, low))
          ∙ ap (λ (digest : List ℕ). digest ∷ []) (get_or-map sha256 blocks k [] [] (omega (arith, counted, low)) ∙ ap sha256 (get_or-pieces size n all k [] low))
          ∙ ap (map sha256) (sym (there k [] low));
    } in
    subst (IsWindow n d stripe) (sym same) window_is
  where
    one_of : (xs : List (List ℕ)) (k : ℕ) → k < length xs → take 1 (drop k xs) ≡ slice_index_or xs k [] ∷ []
    one_of [] k low = absurd (omega arith)
    one_of (x ∷ xs) zero low = refl
    one_of (x ∷ xs) (suc k) low = one_of xs k (omega arith)
