-- A body has one list of shards, and each has the blocks of a shard file.
use Rattle.std.proofs.Common.{◌≡◌, ℕ, ◌<◌, ◌≤◌, ◌∙◌, List, [], length, slice_index, slice_index_or, take, map, ap, sym, arith}
use Rattle.std.specs.List.{range_with_len}
use Rattle.std.specs.Prelude.{All}
use Rattle.std.proofs.lemmas.Grind.{same_number_lists}
use Rattle.std.proofs.lemmas.List.{get_or-map, get_or-take, get_or_default, length-map, same_lists}
use Rattle.std.proofs.lemmas.List.FromFn.{get_or-map-range_with_len, get_or-range_with_len, length-map-range_with_len, length-range_with_len}
use Rattle.poly_code.proofs.CodewordLemmas.{codewords_agree}
use Rattle.poly_code.specs.Codeword.{AreDistinct}
use Rattle.shard_file.proofs.Pieces.{length-piece}
use Rattle.shard_file.specs.Stripes.{piece, stripe_size, stripe_count, stripe_length, stripe_lengths, block_size}
use Rattle.body_print.specs.Laws.{ShardsAreOne, ShardsHaveTheirBlocks}
use Rattle.body_print.specs.Shards.{AreShards, AreStripeBlocks}

-- the blocks of a stripe, one of each shard
abbrev pub stripe_of : ℕ → List (List (List ℕ)) → List (List ℕ)
stripe_of i shards = map (λ shard. slice_index_or shard i []) shards

-- block r of a stripe is that of shard r
pub block_of_shard : (i : ℕ) (shards : List (List (List ℕ))) (r : ℕ) → r < length shards
    → slice_index_or (stripe_of i shards) r [] ≡ slice_index_or (slice_index_or shards r []) i []
block_of_shard i shards r low = get_or-map (λ (shard : List (List ℕ)). slice_index_or shard i []) shards r [] [] low

-- a shard has a block for each stripe
pub length-of_shard : (n d : ℕ) (body : List ℕ) (shards : List (List (List ℕ))) (r : ℕ) → AreShards n d body shards → r < n
    → length (slice_index_or shards r []) ≡ stripe_count (length body)
length-of_shard n d body shards r are low = are.blocks r [] (omega (arith, are.count))

-- a block has the size that its stripe asks for
pub length-of_block : (n d : ℕ) (body : List ℕ) (shards : List (List (List ℕ))) (r i : ℕ) → AreShards n d body shards → r < n
    → i < stripe_count (length body)
    → length (slice_index_or (slice_index_or shards r []) i []) ≡ block_size d (length (piece stripe_size body i))
length-of_block n d body shards r i are low inside =
    let stripe : AreStripeBlocks n d (piece stripe_size body i) (stripe_of i shards) = are.stripes i inside in
    ap (length {A = ℕ}) (sym (block_of_shard i shards r (omega (arith, are.count))))
    ∙ stripe.sizes r [] (omega (arith, stripe.count))

pub shards_have_their_blocks : ShardsHaveTheirBlocks
shards_have_their_blocks n d body shards r are low =
    let shard = slice_index_or shards r [] in
    let lengths = stripe_lengths (length body) in
    let long : length shard ≡ stripe_count (length body) = length-of_shard n d body shards r are low in
    let left : length (map (length {A = ℕ}) shard) ≡ length shard = length-map shard (length {A = ℕ}) in
    let some : length lengths ≡ stripe_count (length body) = length-map-range_with_len (stripe_length (length body)) 0 (stripe_count (length body)) in
    let right : length (map (block_size d) lengths) ≡ length lengths = length-map lengths (block_size d) in
    same_number_lists (map (length {A = ℕ}) shard) (map (block_size d) lengths) (left ∙ long ∙ sym (right ∙ some))
    (λ i below.
    let inside : i < length shard = omega (arith, left) in
    let within : i < stripe_count (length body) = omega (arith, long) in
    get_or-map (length {A = ℕ}) shard i [] 0 inside
    ∙ length-of_block n d body shards r i are low within
    ∙ ap (block_size d) (length-piece stripe_size body i)
    ∙ ap (block_size d) (sym (get_or-map-range_with_len (stripe_length (length body)) 0 (stripe_count (length body)) i i 0 within (omega arith)))
    ∙ sym (get_or-map (block_size d) lengths i 0 0 (omega (arith, some))))

-- no two numbers of a range are the same
range_is_distinct : (d : ℕ) → AreDistinct (range_with_len 0 d)
range_is_distinct d i j x below within e =
    let long : length (range_with_len 0 d) ≡ d = length-range_with_len 0 d in
    let i_at = get_or-range_with_len 0 d i x (omega arith) in
    let j_at = get_or-range_with_len 0 d j x (omega arith) in
    omega (arith, i_at, j_at)

-- the numbers of a range are below its end
range_is_below : (n d : ℕ) → d ≤ n → All (λ r. r < n) (range_with_len 0 d)
range_is_below n d few i x inside =
    let long : length (range_with_len 0 d) ≡ d = length-range_with_len 0 d in
    omega (arith, get_or-range_with_len 0 d i x (omega arith))

-- the blocks of a stripe are determined by its bytes: byte k of block r
same_byte : (n d : ℕ) (stripe : List ℕ) (a b : List (List ℕ)) → n ≤ 256 → d ≤ n → AreStripeBlocks n d stripe a → AreStripeBlocks n d stripe b
    → (r k : ℕ) → r < n → k < block_size d (length stripe) → slice_index (slice_index_or a r []) k ≡ slice_index (slice_index_or b r []) k
same_byte n d stripe a b most few left right r k low inside =
    let at : List ℕ → ℕ = λ (block : List ℕ). slice_index block k in
    let column : map at a ≡ map at b =
    codewords_agree n d (range_with_len 0 d) (map at a) (map at b) most (length-range_with_len 0 d) (range_is_below n d few) (range_is_distinct d)
    (left.columns k inside) (right.columns k inside)
    (λ i x within.
    let long : length (range_with_len 0 d) ≡ d = length-range_with_len 0 d in
    let below : i < d = omega arith in
    let row : slice_index_or (range_with_len 0 d) i x ≡ i = get_or-range_with_len 0 d i x below ∙ omega arith in
    let front : take d a ≡ take d b = left.front ∙ sym right.front in
    let here : slice_index_or a i [] ≡ slice_index_or b i [] =
    sym (get_or-take d a i [] below) ∙ ap (λ (blocks : List (List ℕ)). slice_index_or blocks i []) front ∙ get_or-take d b i [] below in
    ap (slice_index (map at a)) row
    ∙ get_or-map at a i [] 0 (omega (arith, left.count)) ∙ ap at here ∙ sym (get_or-map at b i [] 0 (omega (arith, right.count)))
    ∙ ap (slice_index (map at b)) (sym row)) in
    sym (get_or-map at a r [] 0 (omega (arith, left.count)))
    ∙ ap (λ (bytes : List ℕ). slice_index bytes r) column
    ∙ get_or-map at b r [] 0 (omega (arith, right.count))

-- block i of shard r is the same in two lists of shards of a body
same_block : (n d : ℕ) (body : List ℕ) (a b : List (List (List ℕ))) → n ≤ 256 → d ≤ n → AreShards n d body a → AreShards n d body b
    → (r i : ℕ) → r < n → i < stripe_count (length body)
    → slice_index_or (slice_index_or a r []) i [] ≡ slice_index_or (slice_index_or b r []) i []
same_block n d body a b most few left right r i low inside =
    let stripe = piece stripe_size body i in
    let left_long = length-of_block n d body a r i left low inside in
    let right_long = length-of_block n d body b r i right low inside in
    let left_is = block_of_shard i a r (omega (arith, left.count)) in
    let right_is = block_of_shard i b r (omega (arith, right.count)) in
    same_number_lists (slice_index_or (slice_index_or a r []) i []) (slice_index_or (slice_index_or b r []) i []) (left_long ∙ sym right_long)
    (λ k below.
    ap (λ (block : List ℕ). slice_index block k) (sym left_is)
    ∙ same_byte n d stripe (stripe_of i a) (stripe_of i b) most few (left.stripes i inside) (right.stripes i inside) r k low (omega (arith, left_long))
    ∙ ap (λ (block : List ℕ). slice_index block k) right_is)

pub shards_are_one : ShardsAreOne
shards_are_one n d body a b most few left right =
    same_lists a b (left.count ∙ sym right.count)
    (λ r x below.
    let low : r < n = omega (arith, left.count) in
    let left_at : slice_index_or a r x ≡ slice_index_or a r [] = get_or_default a r x [] below in
    let right_at : slice_index_or b r x ≡ slice_index_or b r [] = get_or_default b r x [] (omega (arith, right.count)) in
    let left_long = length-of_shard n d body a r left low in
    let right_long = length-of_shard n d body b r right low in
    left_at
    ∙ same_lists (slice_index_or a r []) (slice_index_or b r []) (left_long ∙ sym right_long)
    (λ i y inside.
    let within : i < stripe_count (length body) = omega (arith, left_long) in
    get_or_default (slice_index_or a r []) i y [] inside
    ∙ same_block n d body a b most few left right r i low within
    ∙ sym (get_or_default (slice_index_or b r []) i y [] (omega (arith, right_long))))
    ∙ sym right_at)
