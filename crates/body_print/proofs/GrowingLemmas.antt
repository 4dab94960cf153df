-- The shards of a body that gains a stripe.
use Rattle.std.proofs.Common.{◌≡◌, ℕ, ◌+◌, ◌*◌, ◌<◌, ◌≤◌, ◌∙◌, List, [], ◌∷◌, ◌++◌, length, slice_index_or, take, drop, subst, sym, ap, inl, inr, arith}
use Rattle.std.proofs.lemmas.Bool.{cases_lt}
use Rattle.std.proofs.Math.Seq.{get_or-append_seam}
use Rattle.std.proofs.lemmas.List.{drop-append-le, drop_at, get_or-map, get_or_append_left, get_or_default, length-append, length-drop, length-map, same_lists, take-append-le, take_all}
use Rattle.std.proofs.lemmas.List.FromFn.{get_or-map-range_with_len, length-map-range_with_len}
use Rattle.shard_file.specs.Stripes.{piece, stripe_count, stripe_size}
use Rattle.body_print.specs.Laws.{StripesAreAdded}
use Rattle.body_print.specs.Shards.{AreShards, AreStripeBlocks, with_blocks}
use Rattle.body_print.proofs.ShardLemmas.{length-of_shard, stripe_of}

-- the stripes before the last one stay
stripe_stays : (whole i : ℕ) (body stripe : List ℕ) → length body ≡ stripe_size * whole → i < whole
    → piece stripe_size (body ++ stripe) i ≡ piece stripe_size body i
stripe_stays whole i body stripe long low =
    ap (take stripe_size) (drop-append-le (stripe_size * i) body stripe (omega arith))
    ∙ take-append-le stripe_size (drop (stripe_size * i) body) stripe (omega (arith, length-drop (stripe_size * i) body))

-- the last one is the one that was added
stripe_added : (whole : ℕ) (body stripe : List ℕ) → length body ≡ stripe_size * whole → length stripe ≤ stripe_size
    → piece stripe_size (body ++ stripe) whole ≡ stripe
stripe_added whole body stripe long most =
    ap (take stripe_size) (drop_at body stripe (stripe_size * whole) long) ∙ take_all stripe_size stripe most

-- a shard with its block more
shard_more : (shards : List (List (List ℕ))) (blocks : List (List ℕ)) (r : ℕ) (default : List (List ℕ)) → r < length shards
    → slice_index_or (with_blocks shards blocks) r default ≡ slice_index_or shards r [] ++ slice_index_or blocks r [] ∷ []
shard_more shards blocks r default low =
    get_or-map-range_with_len (λ (r : ℕ). slice_index_or shards r [] ++ slice_index_or blocks r [] ∷ []) 0 (length shards) r r default low (omega arith)

-- there are as many shards
length-with_blocks : (shards : List (List (List ℕ))) (blocks : List (List ℕ)) → length (with_blocks shards blocks) ≡ length shards
length-with_blocks shards blocks = length-map-range_with_len (λ (r : ℕ). slice_index_or shards r [] ++ slice_index_or blocks r [] ∷ []) 0 (length shards)

-- the blocks of the stripes before the last one stay
blocks_stay : (n d i : ℕ) (body : List ℕ) (shards : List (List (List ℕ))) (blocks : List (List ℕ)) → AreShards n d body shards
    → i < stripe_count (length body) → stripe_of i (with_blocks shards blocks) ≡ stripe_of i shards
blocks_stay n d i body shards blocks are low =
    let new = with_blocks shards blocks in
    let long = length-with_blocks shards blocks in
    let at : List (List ℕ) → List ℕ = λ (shard : List (List ℕ)). slice_index_or shard i [] in
    same_lists (stripe_of i new) (stripe_of i shards) (length-map new at ∙ long ∙ sym (length-map shards at))
    (λ r x below.
    let inside : r < length shards = omega (arith, long, length-map new at) in
    let has : i < length (slice_index_or shards r []) = omega (arith, length-of_shard n d body shards r are (omega (arith, are.count))) in
    get_or-map at new r [] x (omega (arith, long))
    ∙ ap at (shard_more shards blocks r [] inside)
    ∙ get_or_append_left (slice_index_or shards r []) (slice_index_or blocks r [] ∷ []) [] i has
    ∙ sym (get_or-map at shards r [] x inside))

-- those of the last one are those that were added
blocks_added : (n d : ℕ) (body : List ℕ) (shards : List (List (List ℕ))) (blocks : List (List ℕ)) → AreShards n d body shards
    → length blocks ≡ n → stripe_of (stripe_count (length body)) (with_blocks shards blocks) ≡ blocks
blocks_added n d body shards blocks are count =
    let new = with_blocks shards blocks in
    let last = stripe_count (length body) in
    let long = length-with_blocks shards blocks in
    let at : List (List ℕ) → List ℕ = λ (shard : List (List ℕ)). slice_index_or shard last [] in
    same_lists (stripe_of last new) blocks (length-map new at ∙ long ∙ are.count ∙ sym count)
    (λ r x below.
    let inside : r < length shards = omega (arith, long, length-map new at) in
    let shard = slice_index_or shards r [] in
    let has : last ≡ length shard = sym (length-of_shard n d body shards r are (omega (arith, are.count))) in
    get_or-map at new r [] x (omega (arith, long))
    ∙ ap at (shard_more shards blocks r [] inside)
    ∙ ap (λ (m : ℕ). slice_index_or (shard ++ slice_index_or blocks r [] ∷ []) m []) has
    ∙ get_or-append_seam shard (slice_index_or blocks r []) [] []
    ∙ get_or_default blocks r [] x (omega (arith, count, are.count)))

pub stripes_are_added : StripesAreAdded
stripes_are_added n d whole body stripe shards blocks long some most are added =
    let new = with_blocks shards blocks in
    let joined : length (body ++ stripe) ≡ length body + length stripe = length-append body stripe in
    let before : stripe_count (length body) ≡ whole = omega arith in
    let after : stripe_count (length (body ++ stripe)) ≡ whole + 1 = omega arith in
    let count = length-with_blocks shards blocks in
    record {
      count = count ∙ are.count;
      blocks = λ r x below.
          let inside : r < length shards = omega (arith, count) in
          let shard = slice_index_or shards r [] in
          ap (length {A = List ℕ}) (shard_more shards blocks r x inside)
          ∙ length-append shard (slice_index_or blocks r [] ∷ [])
          ∙ omega (arith, length-of_shard n d body shards r are (omega (arith, are.count)));
      stripes = λ i low. elim (cases_lt i whole) [
        | inl within ↦
            subst (λ (piece : List ℕ). AreStripeBlocks n d piece (stripe_of i new)) (sym (stripe_stays whole i body stripe long within))
            (subst (AreStripeBlocks n d (piece stripe_size body i)) (sym (blocks_stay n d i body shards blocks are (omega arith))) (are.stripes i (omega arith)))
        | inr past ↦
            let at : whole ≡ i = omega arith in
            let last : stripe_of whole new ≡ blocks =
            ap (λ (m : ℕ). stripe_of m new) (sym before) ∙ blocks_added n d body shards blocks are added.count in
            subst (λ (m : ℕ). AreStripeBlocks n d (piece stripe_size (body ++ stripe) m) (stripe_of m new)) at
            (subst (λ (piece : List ℕ). AreStripeBlocks n d piece (stripe_of whole new)) (sym (stripe_added whole body stripe long most))
            (subst (AreStripeBlocks n d stripe) (sym last) added))
      ];
    }
