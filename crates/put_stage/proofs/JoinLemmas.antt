-- The shards of a body that gains further stripes.
use Rattle.std.proofs.Common.{◌≡◌, ℕ, ◌+◌, ◌-◌, ◌*◌, ◌<◌, ◌∙◌, List, [], ◌++◌, length, slice_index_or, take, drop, map, ap, subst, sym, inl, inr, arith}
use Rattle.std.specs.List.{concat}
use Rattle.std.proofs.Math.Seq.{drop-append-add}
use Rattle.std.proofs.lemmas.Bool.{cases_lt}
use Rattle.std.proofs.lemmas.List.{drop-append-le, get_or-append_right, get_or-map, get_or_append_left, get_or_default, length-append, length-drop, length-map, map-append, same_lists, take-append-le}
use Rattle.std.proofs.lemmas.List.Folds.{concat-append}
use Rattle.std.proofs.lemmas.List.FromFn.{get_or-map-range_with_len, length-map-range_with_len}
use Rattle.sha2.specs.Sha256.{sha256}
use Rattle.shard_file.specs.Shards.{table_of}
use Rattle.shard_file.specs.Stripes.{piece, stripe_count, stripe_size}
use Rattle.body_print.specs.Shards.{AreShards, AreStripeBlocks}
use Rattle.body_print.proofs.ShardLemmas.{length-of_shard, stripe_of}
use Rattle.put_stage.specs.Windows.{with_shards}

-- a stripe before the seam stays, and one behind it is one of the further bytes
stripe_before : (whole i : ℕ) (body bytes : List ℕ) → length body ≡ stripe_size * whole → i < whole → piece stripe_size (body ++ bytes) i ≡ piece stripe_size body i
stripe_before whole i body bytes long low =
    ap (take stripe_size) (drop-append-le (stripe_size * i) body bytes (omega (arith, long, low)))
    ∙ take-append-le stripe_size (drop (stripe_size * i) body) bytes (omega (arith, length-drop (stripe_size * i) body, long, low))

stripe_behind : (whole j : ℕ) (body bytes : List ℕ) → length body ≡ stripe_size * whole → piece stripe_size (body ++ bytes) (whole + j) ≡ piece stripe_size bytes j
stripe_behind whole j body bytes long =
    let at : stripe_size * (whole + j) ≡ length body + stripe_size * j = omega (arith, long) in
    ap (λ (m : ℕ). take stripe_size (drop m (body ++ bytes))) at ∙ ap (take stripe_size) (drop-append-add body bytes (stripe_size * j))

-- the shards with more behind them
module _ (shards more : List (List (List ℕ))) where
  abbrev with_at : ℕ → List (List ℕ)
  with_at k = slice_index_or shards k [] ++ slice_index_or more k []

  pub length-with_shards : length (with_shards shards more) ≡ length shards
  length-with_shards = length-map-range_with_len with_at 0 (length shards)

  pub shard_with : (k : ℕ) (default : List (List ℕ)) → k < length shards
      → slice_index_or (with_shards shards more) k default ≡ slice_index_or shards k [] ++ slice_index_or more k []
  shard_with k default low = get_or-map-range_with_len with_at 0 (length shards) k k default low (omega arith)

-- the blocks of a stripe of the body stay
blocks_before : (n d i : ℕ) (body : List ℕ) (shards more : List (List (List ℕ))) → AreShards n d body shards → i < stripe_count (length body)
    → stripe_of i (with_shards shards more) ≡ stripe_of i shards
blocks_before n d i body shards more are low =
    let new = with_shards shards more in
    let long = length-with_shards shards more in
    let at : List (List ℕ) → List ℕ = λ (shard : List (List ℕ)). slice_index_or shard i [] in
    same_lists (stripe_of i new) (stripe_of i shards) (length-map new at ∙ long ∙ sym (length-map shards at))
    (λ k e below.
    let inside : k < length shards = omega (arith, long, length-map new at, below) in
    let has : i < length (slice_index_or shards k []) = omega (arith, length-of_shard n d body shards k are (omega (arith, are.count, inside)), low) in
    get_or-map at new k [] e (omega (arith, long, inside))
    ∙ ap at (shard_with shards more k [] inside)
    ∙ get_or_append_left (slice_index_or shards k []) (slice_index_or more k []) [] i has
    ∙ sym (get_or-map at shards k [] e inside))

-- and those of a stripe behind it are those of the further bytes
blocks_behind : (n d j : ℕ) (body bytes : List ℕ) (shards more : List (List (List ℕ))) → AreShards n d body shards → AreShards n d bytes more
    → stripe_of (stripe_count (length body) + j) (with_shards shards more) ≡ stripe_of j more
blocks_behind n d j body bytes shards more are are_more =
    let new = with_shards shards more in
    let i = stripe_count (length body) + j in
    let long = length-with_shards shards more in
    let at : List (List ℕ) → List ℕ = λ (shard : List (List ℕ)). slice_index_or shard i [] in
    let at_more : List (List ℕ) → List ℕ = λ (shard : List (List ℕ)). slice_index_or shard j [] in
    same_lists (stripe_of i new) (stripe_of j more) (length-map new at ∙ long ∙ are.count ∙ sym (length-map more at_more ∙ are_more.count))
    (λ k e below.
    let inside : k < length shards = omega (arith, long, length-map new at, below) in
    let mine = slice_index_or shards k [] in
    let has : length mine ≡ stripe_count (length body) = length-of_shard n d body shards k are (omega (arith, are.count, inside)) in
    let back : i - stripe_count (length body) ≡ j = omega arith in
    get_or-map at new k [] e (omega (arith, long, inside))
    ∙ ap at (shard_with shards more k [] inside)
    ∙ get_or-append_right mine (slice_index_or more k []) (stripe_count (length body)) i [] has (omega arith)
    ∙ ap (λ (m : ℕ). slice_index_or (slice_index_or more k []) m []) back
    ∙ sym (get_or-map at_more more k [] e (omega (arith, are.count, are_more.count, inside))))

-- whole stripes and further bytes have the shards of both
pub shards_joined : (n d whole : ℕ) (body bytes : List ℕ) (shards more : List (List (List ℕ))) → length body ≡ stripe_size * whole
    → AreShards n d body shards → AreShards n d bytes more → AreShards n d (body ++ bytes) (with_shards shards more)
shards_joined n d whole body bytes shards more long are are_more =
    let new = with_shards shards more in
    let joined : length (body ++ bytes) ≡ length body + length bytes = length-append body bytes in
    let before : stripe_count (length body) ≡ whole = omega (arith, long) in
    let after : stripe_count (length (body ++ bytes)) ≡ whole + stripe_count (length bytes) = omega (arith, joined, long) in
    let count = length-with_shards shards more in
    record {
      count = count ∙ are.count;
      blocks = λ k e below.
          let inside : k < length shards = omega (arith, count, below) in
          ap (length {A = List ℕ}) (shard_with shards more k e inside)
          ∙ length-append (slice_index_or shards k []) (slice_index_or more k [])
          ∙ omega (
            arith,
            length-of_shard n d body shards k are (omega (arith, are.count, inside)),
            length-of_shard n d bytes more k are_more (omega (arith, are.count, inside)),
            before,
            after,
          );
      stripes = λ i low. elim (cases_lt i whole) [
        | inl within ↦
            subst (λ (stripe : List ℕ). AreStripeBlocks n d stripe (stripe_of i new)) (sym (stripe_before whole i body bytes long within))
            (subst (AreStripeBlocks n d (piece stripe_size body i)) (sym (blocks_before n d i body shards more are (omega (arith, before, within))))
            (are.stripes i (omega (arith, before, within))))
        | inr past ↦
            let j = i - whole in
            let at : whole + j ≡ i = omega (arith, past) in
            let row : stripe_of (whole + j) new ≡ stripe_of j more =
            ap (λ (m : ℕ). stripe_of (m + j) new) (sym before) ∙ blocks_behind n d j body bytes shards more are are_more in
            subst (λ (m : ℕ). AreStripeBlocks n d (piece stripe_size (body ++ bytes) m) (stripe_of m new)) at
            (subst (λ (stripe : List ℕ). AreStripeBlocks n d stripe (stripe_of (whole + j) new)) (sym (stripe_behind whole j body bytes long))
            (subst (AreStripeBlocks n d (piece stripe_size bytes j)) (sym row) (are_more.stripes j (omega (arith, after, low, past)))))
      ];
    }

-- the digest table of more blocks
table_with : (blocks more : List (List ℕ)) → table_of (blocks ++ more) ≡ table_of blocks ++ table_of more
table_with blocks more = ap concat (map-append sha256 blocks more) ∙ concat-append (map sha256 blocks) (map sha256 more)

-- all digest tables, with the further digests
pub tables_joined : (n : ℕ) (shards more : List (List (List ℕ))) (old new : List (List ℕ)) → length shards ≡ n → length new ≡ n → old ≡ map table_of shards
    → ((k : ℕ) → k < n → slice_index_or new k [] ≡ slice_index_or old k [] ++ table_of (slice_index_or more k []))
    → new ≡ map table_of (with_shards shards more)
tables_joined n shards more old new shards_long new_long old_is each =
    let after : List (List (List ℕ)) = with_shards shards more in
    let after_long = length-with_shards shards more in
    let mapped : length (map table_of after) ≡ length after = length-map after table_of in
    same_lists new (map table_of after) (omega (arith, mapped, after_long, shards_long, new_long))
    (λ k e below.
    let low : k < n = omega (arith, new_long, below) in
    let was : slice_index_or old k [] ≡ table_of (slice_index_or shards k []) =
    ap (λ (tables : List (List ℕ)). slice_index_or tables k []) old_is ∙ get_or-map table_of shards k [] [] (omega (arith, shards_long, low)) in
    get_or_default new k e [] (omega (arith, new_long, low))
    ∙ each k low ∙ ap (λ (front : List ℕ). front ++ table_of (slice_index_or more k [])) was
    ∙ sym (table_with (slice_index_or shards k []) (slice_index_or more k []))
    ∙ ap table_of (sym (shard_with shards more k [] (omega (arith, shards_long, low))))
    ∙ sym (get_or-map table_of after k [] e (omega (arith, after_long, shards_long, low))))
