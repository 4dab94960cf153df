-- A stripe that is rebuilt from blocks that were shown and verify is a body's, or there is a clash.
use Rattle.std.proofs.Common.{◌≡◌, ◌⊎◌, ℕ, ◌+◌, ◌*◌, ◌<◌, ◌∙◌, List, [], length, slice_index, slice_index_or, take, drop, map, sym, ap, refl, inl, inr, arith}
use Rattle.std.specs.Prelude.{All}
use Rattle.std.proofs.lemmas.List.{drop_at, drop_more, get_or-map, length-take-le, take_at}
use Rattle.sha2.proofs.Facts256.{length-sha256}
use Rattle.sha2.specs.Sha256.{sha256}
use Rattle.drive_base.specs.Plan.{data_drives}
use Rattle.drive_base.specs.declared.plan.SetPlan.{SetPlan}
use Rattle.manifest_file.specs.declared.manifest.ManifestPart.{ManifestPart}
use Rattle.shard_file.proofs.Pieces.{length-piece}
use Rattle.shard_file.proofs.ShardLemmas.{length-table_of, table_around}
use Rattle.shard_file.specs.Shards.{root_of, table_of}
use Rattle.shard_file.specs.Stripes.{piece, stripe_size, stripe_count, stripe_length, block_size}
use Rattle.body_print.proofs.ByteLemmas.{table_or_block_is_bytes}
use Rattle.body_print.proofs.ClashLemmas.{each_or, one_or_two}
use Rattle.body_print.specs.Clashes.{IsTableOrBlock}
use Rattle.body_print.specs.Shards.{AreShards, AreStripeBlocks, HasRoots}
use Rattle.get_read.specs.Account.{Account}
use Rattle.get_read.specs.Progress.{IsStripeBy, PartClashIn}
use Rattle.get_read.specs.Causes.{digest_in}
use Rattle.get_read.specs.Given.{MetIn}
use Rattle.get_read.specs.Stripes.{EachStripe, IsRebuilt}
use Rattle.get_read.specs.Letters.{GaveBlockIn, ShowedAt}
use Rattle.get_read.specs.Blocks.{row_at}
use Rattle.get_read.specs.declared.blocks.Blocks.{Blocks}

-- the digest of a block in the digest table
digest_of_block : (blocks : List (List ℕ)) (i : ℕ) → i < length blocks → digest_in (table_of blocks) i ≡ sha256 (slice_index_or blocks i [])
digest_of_block blocks i low =
    let block = slice_index_or blocks i [] in
    let before : length (table_of (take i blocks)) ≡ 32 * i =
    length-table_of (take i blocks) ∙ ap (λ (m : ℕ). 32 * m) (length-take-le i blocks (omega arith)) in
    ap (λ (table : List ℕ). take 32 (drop (32 * i) table)) (table_around blocks i)
    ∙ ap (take 32) (drop_at (table_of (take i blocks)) (table_of (drop i blocks)) (32 * i) before)
    ∙ ap (λ (rest : List (List ℕ)). take 32 (table_of rest)) (drop_more blocks i [] low)
    ∙ take_at (sha256 block) (table_of (drop (i + 1) blocks)) 32 (length-sha256 block)

-- bytes that were shown were met
pub shown_is_met : (calls : Account) (k : ℕ) (name : List ℕ) (at : ℕ) (bytes : List ℕ) → ShowedAt calls k name at bytes → MetIn calls bytes
shown_is_met calls k name at bytes showed = inl (k, name, showed.0, showed.2, showed.3, (showed.1, showed.5))

-- a verified block is the block of each byte string that has the part's roots, or there is a clash
pub given_or_clash : (set : SetPlan) (part : ManifestPart) (i k : ℕ) (calls : Account) (block bytes : List ℕ) → k < set.drives
    → length bytes ≡ part.length → i < stripe_count part.length
    → (roots : HasRoots set.drives (data_drives set.drives set.parity) bytes part.roots)
    → GaveBlockIn (data_drives set.drives set.parity) part i (slice_index_or part.roots k []) calls calls k block
    → (block ≡ slice_index_or (slice_index_or roots.0 k []) i [])
    ⊎ PartClashIn set.drives (data_drives set.drives set.parity) bytes calls
given_or_clash set part i k calls block bytes low long within roots gave =
    let is = gave.is_block in
    let dd = data_drives set.drives set.parity in
    let shards = roots.0 in
    let are : AreShards set.drives dd bytes shards = roots.1 in
    let shard = slice_index_or shards k [] in
    let at : k < length shards = omega (arith, are.count) in
    let has : i < length shard = omega (arith, are.blocks k [] at, ap stripe_count long) in
    let root : slice_index_or part.roots k [] ≡ sha256 (table_of shard) =
    ap (λ (r : List (List ℕ)). slice_index_or r k []) roots.2 ∙ get_or-map root_of shards k [] [] at in
    elim (one_or_two is.table (table_of shard)) [
      | inl one ↦
          let digest : sha256 block ≡ sha256 (slice_index_or shard i []) =
          sym gave.same ∙ is.stored ∙ ap (λ (table : List ℕ). digest_in table i) one ∙ digest_of_block shard i has in
          let hashed : IsTableOrBlock set.drives dd bytes (slice_index_or shard i []) =
          record { shards = shards; are = are; r = k; within = low; is = inr (i, has, refl) } in
          elim (one_or_two block (slice_index_or shard i [])) [
            | inl same ↦ inl same
            | inr differ ↦ inr (record {
              read = block;
              met = shown_is_met calls k _ _ block is.showed;
              other = slice_index_or shard i [];
              clash = record {
                read_bytes = is.bytes;
                other_bytes = table_or_block_is_bytes set.drives dd bytes (slice_index_or shard i []) (omega arith) hashed;
                differ = differ;
                same = digest;
              };
              is = hashed;
            })
          ]
      | inr differ ↦
          let hashed : IsTableOrBlock set.drives dd bytes (table_of shard) =
          record { shards = shards; are = are; r = k; within = low; is = inl refl } in
          let held = is.is_table in
          inr (record {
            read = is.table;
            met = shown_is_met calls k _ _ is.table held.showed;
            other = table_of shard;
            clash = record {
              read_bytes = held.bytes;
              other_bytes = table_or_block_is_bytes set.drives dd bytes (table_of shard) (omega arith) hashed;
              differ = differ;
              same = sym held.digest ∙ root;
            };
            is = hashed;
          })
    ]

-- a place within a list of this length
inside_of : {k n m : ℕ} → k < n → m ≡ n → k < m
inside_of low same = omega (arith, low, same)

-- a stripe that is rebuilt from verified blocks of as many drives as it has data blocks
pub rebuilt_from : (set : SetPlan) (part : ManifestPart) (i : ℕ) (rows : List ℕ) (block : ℕ → List ℕ) (stripe : List ℕ) (calls : Account)
    → i < stripe_count part.length → All (λ row. row < set.drives) rows
    → ((j : ℕ) → j < length rows → GaveBlockIn (data_drives set.drives set.parity) part i (slice_index_or part.roots (slice_index rows j) []) calls calls
    (slice_index rows j) (block j))
    → length stripe ≡ stripe_length part.length i
    → EachStripe set (stripe_length part.length i) rows block (λ other _. stripe ≡ other)
    → IsStripeBy set part i stripe calls
rebuilt_from set part i rows block stripe calls within below each long rebuilt = record {
  long = long;
  exact = λ bytes is roots.
      let dd = data_drives set.drives set.parity in
      let are : AreShards set.drives dd bytes roots.0 = roots.1 in
      let column = map (λ (shard : List (List ℕ)). slice_index_or shard i []) roots.0 in
      let blocks_are : AreStripeBlocks set.drives dd (piece stripe_size bytes i) column = are.stripes i (omega (arith, within, ap stripe_count is)) in
      let long_so : length (piece stripe_size bytes i) ≡ stripe_length part.length i =
      length-piece stripe_size bytes i ∙ ap (λ (n : ℕ). stripe_length n i) is in
      elim (each_or (λ j. block j ≡ slice_index_or column (slice_index rows j) [])
      (PartClashIn set.drives dd bytes calls) (length rows)
      (λ j low.
      let row = slice_index rows j in
      let inside : row < set.drives = below j 0 low in
      elim (given_or_clash set part i row calls (block j) bytes inside is within roots (each j low)) [
        | inl same ↦ inl (same ∙ sym (get_or-map (λ (shard : List (List ℕ)). slice_index_or shard i []) roots.0 row [] [] (inside_of inside are.count)))
        | inr clash ↦ inr clash
      ])) [
        | inl same ↦ inl (rebuilt (piece stripe_size bytes i) column long_so blocks_are same)
        | inr clash ↦ inr clash
      ];
}

pub rebuilt_by : (set : SetPlan) (part : ManifestPart) (i size : ℕ) (found : Blocks) (stripe : List ℕ) (calls : Account)
    → i < stripe_count part.length → size ≡ block_size (data_drives set.drives set.parity) (stripe_length part.length i)
    → All (λ row. row < set.drives) found.rows.items
    → ((j : ℕ) → j < length found.rows.items → GaveBlockIn (data_drives set.drives set.parity) part i (slice_index_or part.roots (row_at found j) []) calls calls
    (row_at found j) (piece size found.bytes.items j))
    → IsRebuilt set size (stripe_length part.length i) found stripe → IsStripeBy set part i stripe calls
rebuilt_by set part i size found stripe calls within size_is below each rebuilt =
    rebuilt_from set part i found.rows.items (piece size found.bytes.items) stripe calls within below each rebuilt.0 rebuilt.1
