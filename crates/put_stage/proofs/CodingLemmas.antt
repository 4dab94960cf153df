-- The blocks of a stripe as they are coded: the data blocks, then the parity.
use Rattle.std.proofs.Common.{◌≡◌, ℕ, ◌+◌, ◌-◌, ◌*◌, ◌<◌, ◌≤◌, ◌∙◌, List, [], ◌++◌, length, slice_index, take, drop, map, replicate, ap, inl, inr, subst, sym, arith}
use Rattle.std.proofs.Math.Nat.{mul-le-mul_left}
use Rattle.std.proofs.lemmas.Bool.{cases_lt}
use Rattle.std.proofs.lemmas.Grind.{same_number_lists}
use Rattle.std.proofs.lemmas.List.{drop-append-le, get_or-append_right, get_or-drop, get_or-map, get_or-take, get_or_append_left, length-append, length-drop, length-map, same_lists, take-append-le, take_all, take_at}
use Rattle.std.proofs.lemmas.List.FromFn.{take-map-range_with_len}
use Rattle.poly_code.proofs.CodewordLemmas.{column-at, length-column}
use Rattle.poly_code.specs.Codeword.{Codeword}
use Rattle.poly_code.specs.Columns.{column}
use Rattle.shard_file.proofs.Pieces.{get_or-pieces, length-pieces, length-whole_piece}
use Rattle.shard_file.proofs.StripeLemmas.{blocks_reach, length-padded}
use Rattle.shard_file.specs.Stripes.{block_size, padded, piece, pieces}
use Rattle.body_print.specs.Shards.{AreStripeBlocks}
use Rattle.sha2.specs.Sha256.{sha256}
use Rattle.put_stage.specs.StripeBlocks.{IsCoded}
use Rattle.put_stage.specs.declared.windows.Stripe.{Stripe}

-- byte k of a piece
pub byte_of_piece : (size r k : ℕ) (bytes : List ℕ) → k < size → slice_index (piece size bytes r) k ≡ slice_index bytes (size * r + k)
byte_of_piece size r k bytes inside = get_or-take size (drop (size * r) bytes) k 0 inside ∙ get_or-drop (size * r) bytes k 0

-- a piece of the front is one of the whole
pub piece_of_front : (size r : ℕ) (front back : List ℕ) → size * (r + 1) ≤ length front → piece size (front ++ back) r ≡ piece size front r
piece_of_front size r front back within =
    let split : size * (r + 1) ≡ size * r + size = omega arith in
    let rest : length (drop (size * r) front) ≡ length front - size * r = length-drop (size * r) front in
    ap (take size) (drop-append-le (size * r) front back (omega arith))
    ∙ take-append-le size (drop (size * r) front) back (omega arith)

-- piece r ends within as many pieces as there are
pub piece_ends : (size r count : ℕ) → r < count → size * (r + 1) ≤ size * count
piece_ends size r count low = mul-le-mul_left size (omega arith)

-- the bytes of a column are those of the blocks
pub column_of_blocks : (d p n size k : ℕ) (front parity : List ℕ) → d + p ≡ n → length front ≡ size * d → k < size
    → column d size k front ++ column p size k parity ≡ map (λ (block : List ℕ). slice_index block k) (pieces size n (front ++ parity))
column_of_blocks d p n size k front parity whole long inside =
    let blocks = pieces size n (front ++ parity) in
    let at : List ℕ → ℕ = λ (block : List ℕ). slice_index block k in
    let left = column d size k front in
    let right = column p size k parity in
    let left_long : length left ≡ d = length-column d size k front in
    let right_long : length right ≡ p = length-column p size k parity in
    let both : length (left ++ right) ≡ length left + length right = length-append left right in
    let many : length blocks ≡ n = length-pieces size n (front ++ parity) in
    let mapped : length (map at blocks) ≡ length blocks = length-map blocks at in
    same_number_lists (left ++ right) (map at blocks) (omega arith)
    (λ r below.
    let low : r < n = omega arith in
    let block : slice_index (map at blocks) r ≡ slice_index (front ++ parity) (size * r + k) =
    get_or-map at blocks r [] 0 (omega arith) ∙ ap at (get_or-pieces size n (front ++ parity) r [] low) ∙ byte_of_piece size r k (front ++ parity) inside in
    column_byte d p size k r front parity long inside (omega arith) ∙ sym block)
  where
    column_byte : (d p size k r : ℕ) (front parity : List ℕ) → length front ≡ size * d → k < size → r < d + p
        → slice_index (column d size k front ++ column p size k parity) r ≡ slice_index (front ++ parity) (size * r + k)
    column_byte d p size k r front parity long inside low = elim (cases_lt r d) [
      | inl low_data ↦
          let ends : size * (r + 1) ≤ size * d = piece_ends size r d low_data in
          let split : size * (r + 1) ≡ size * r + size = omega arith in
          let place : r * size + k ≡ size * r + k = omega arith in
          get_or_append_left (column d size k front) (column p size k parity) 0 r (omega (arith, length-column d size k front))
          ∙ column-at d size k front r low_data
          ∙ ap (slice_index front) place
          ∙ sym (get_or_append_left front parity 0 (size * r + k) (omega arith))
      | inr past ↦
          let back : d + (r - d) ≡ r = omega arith in
          let begins : size * (d + (r - d)) ≡ size * r = ap (λ (m : ℕ). size * m) back in
          let place : (r - d) * size + k ≡ size * r + k - size * d = omega arith in
          get_or-append_right (column d size k front) (column p size k parity) d r 0 (length-column d size k front) past
          ∙ column-at p size k parity (r - d) (omega arith)
          ∙ ap (slice_index parity) place
          ∙ sym (get_or-append_right front parity (size * d) (size * r + k) 0 long (omega arith))
    ]

-- the data blocks of a stripe and the parity of which every column is a codeword are the blocks of the stripe
pub stripe_blocks : (n d p size : ℕ) (stripe parity : List ℕ) → d + p ≡ n → 0 < d → size ≡ block_size d (length stripe) → length parity ≡ size * p
    → ((k : ℕ) → k < size → Codeword n d (column d size k (padded d stripe) ++ column p size k parity))
    → AreStripeBlocks n d stripe (pieces size n (padded d stripe ++ parity))
stripe_blocks n d p size stripe parity whole some sized parity_long words =
    let front = padded d stripe in
    let all = front ++ parity in
    let times : d * size ≡ d * block_size d (length stripe) = ap (λ (m : ℕ). d * m) sized in
    let front_long : length front ≡ size * d = omega (arith, length-padded d stripe some) in
    let spread : size * (d + p) ≡ size * n = ap (λ (m : ℕ). size * m) whole in
    let all_long : length all ≡ size * n = length-append front parity ∙ omega arith in
    let count : length (pieces size n all) ≡ n = length-pieces size n all in
    let data_count : length (pieces size d all) ≡ d = length-pieces size d all in
    let front_count : length (pieces size d front) ≡ d = length-pieces size d front in
    let same : pieces size d all ≡ pieces size d front =
    same_lists (pieces size d all) (pieces size d front) (data_count ∙ sym front_count)
    (λ r x below.
    let low : r < d = omega arith in
    get_or-pieces size d all r x low
    ∙ piece_of_front size r front parity (omega (arith, piece_ends size r d low))
    ∙ sym (get_or-pieces size d front r x low)) in
    record {
      count = count;
      sizes = λ r x below.
          let low : r < n = omega arith in
          ap (length {A = ℕ}) (get_or-pieces size n all r x low) ∙ length-whole_piece size n all r low all_long ∙ sized;
      front = take-map-range_with_len (piece size all) 0 n d (omega arith) ∙ same ∙ ap (λ (m : ℕ). pieces m d front) sized;
      columns = λ k inside.
          let within : k < size = omega arith in
          subst (Codeword n d) (column_of_blocks d p n size k front parity whole front_long within) (words k within);
    }

-- the stripe and zeros up to d blocks are the padded stripe
pub padded_items : (d size held had : ℕ) (stripe first : List ℕ) → 0 < d → size ≡ block_size d (length stripe) → held ≡ d → first ≡ stripe → had ≡ length stripe
    → take (size * held) first ++ replicate (size * held - had) 0 ≡ padded d stripe
padded_items d size held had stripe first some sized drives is long =
    let blocks = block_size d (length stripe) in
    let place : size * held ≡ d * blocks = ap (λ (m : ℕ). size * m) drives ∙ ap (λ (m : ℕ). m * d) sized ∙ omega arith in
    let reach : length stripe ≤ d * blocks = blocks_reach d (length stripe) some in
    let gap : size * held - had ≡ d * blocks - length stripe = omega arith in
    ap (λ (bytes : List ℕ). take (size * held) bytes ++ replicate (size * held - had) 0) is
    ∙ ap (λ (bytes : List ℕ). bytes ++ replicate (size * held - had) 0) (take_all (size * held) stripe (omega arith))
    ∙ ap (λ (m : ℕ). stripe ++ replicate m 0) gap

-- a stripe is coded where its blocks are the data and the parity, and its digests theirs
pub is_coded : (n d p : ℕ) (stripe front out : List ℕ) (coded : Stripe) → d + p ≡ n → 0 < d → coded.size ≡ block_size d (length stripe)
    → front ≡ padded d stripe → coded.blocks.items ≡ front ++ out → length out ≡ coded.size * p
    → ((k : ℕ) → k < coded.size → Codeword n d (column d coded.size k front ++ column p coded.size k out))
    → coded.digests.items ≡ map sha256 (pieces coded.size n coded.blocks.items)
    → IsCoded n d stripe coded
is_coded n d p stripe front out coded whole some sized padded_is blocks_are long words digests =
    let size = coded.size in
    let times : d * size ≡ d * block_size d (length stripe) = ap (λ (m : ℕ). d * m) sized in
    let spread : size * (d + p) ≡ size * n = ap (λ (m : ℕ). size * m) whole in
    let front_long : length front ≡ size * d = ap (length {A = ℕ}) padded_is ∙ omega (arith, length-padded d stripe some) in
    let all_long : length coded.blocks.items ≡ size * n = ap (length {A = ℕ}) blocks_are ∙ length-append front out ∙ omega arith in
    let are : AreStripeBlocks n d stripe (pieces size n (padded d stripe ++ out)) =
    stripe_blocks n d p size stripe out whole some sized long
    (λ k inside. subst (λ (bytes : List ℕ). Codeword n d (column d size k bytes ++ column p size k out)) padded_is (words k inside)) in
    let same : padded d stripe ++ out ≡ coded.blocks.items = sym (blocks_are ∙ ap (λ (bytes : List ℕ). bytes ++ out) padded_is) in
    record {
      long = all_long;
      blocks = subst (λ (bytes : List ℕ). AreStripeBlocks n d stripe (pieces size n bytes)) same are;
      digests = digests;
    }

-- a product by an equal number, turned around
pub turned : (a b c : ℕ) → b ≡ c → a * b ≡ c * a
turned a b c e = ap (λ (m : ℕ). a * m) e ∙ omega arith

-- the data blocks stay in front of what is filled up with more
pub front_stays : (d size all : ℕ) (stripe held more : List ℕ) → 0 < d → size ≡ block_size d (length stripe) → held ≡ padded d stripe → size * d ≤ all
    → take (size * d) (take all held ++ more) ≡ padded d stripe
front_stays d size all stripe held more some sized is fits =
    let times : d * size ≡ d * block_size d (length stripe) = ap (λ (m : ℕ). d * m) sized in
    let long : length held ≡ size * d = ap (length {A = ℕ}) is ∙ omega (arith, length-padded d stripe some) in
    ap (λ (bytes : List ℕ). take (size * d) (bytes ++ more)) (take_all all held (omega arith)) ∙ take_at held more (size * d) long ∙ is
