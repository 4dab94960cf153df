-- A stripe before and after one call, and what its blocks give.
use Rattle.std.proofs.Common.{◌≡◌, ◌⊎◌, ◌∙◌, ℕ, ◌+◌, ◌*◌, ◌<◌, List, [], ◌∷◌, ◌++◌, length, replicate, slice_index, slice_index_or, slice_set, ap, refl, subst, sym, inl, inr, arith}
use Rattle.std.specs.Prelude.{All, Err, None, Ok, Option, Result, Some, Vec, cond, false}
use Rattle.std.specs.Int.{IsBitSet}
use Rattle.std.proofs.Math.Seq.{get_or-append_seam}
use Rattle.std.proofs.lemmas.Bool.{cases_eq, cases_lt}
use Rattle.std.proofs.lemmas.List.{get_or_append_left, get_or-set_other, get_or-set_same, length-append, length-set, set-get_or, take_all}
use Rattle.std.proofs.lemmas.List.Elements.{All-weaker}
use Rattle.std.proofs.lemmas.List.Folds.{sum_by-replicate}
use Rattle.field_reader.specs.Spelling.{IsBytes}
use Rattle.sha2.specs.Sha256.{sha256}
use Rattle.call_types.specs.Good.{good_count, is_good}
use Rattle.call_types.specs.declared.why.Why.{Why}
use Rattle.call_types.specs.declared.why.Why.TheVariants.{Good, Damaged}
use Rattle.seal_file.specs.declared.damage.Damage.{Damage}
use Rattle.seal_file.specs.declared.damage.Damage.TheVariants.{Short, Digest, Kind, Spelling, Long}
use Rattle.drive_base.specs.View.{DriveView}
use Rattle.shard_file.specs.Checks.{Checks}
use Rattle.drive_base.specs.Plan.{data_drives}
use Rattle.drive_base.specs.Calls.{MadeCall, Seen, Showed, Tells}
use Rattle.drive_base.specs.declared.plan.SetPlan.{SetPlan}
use Rattle.manifest_file.specs.declared.manifest.ManifestPart.{ManifestPart}
use Rattle.shard_file.specs.Shards.{block_place, table_place}
use Rattle.shard_file.specs.Stripes.{piece, stripe_count, stripe_length, stripe_size, block_size}
use Rattle.body_print.specs.Names.{shard_name}
use Rattle.get_read.specs.declared.blocks.Blocks.{Blocks}
use Rattle.get_read.specs.Account.{Account, Call, WasSeen}
use Rattle.get_read.specs.Calls.{WasSeenSo}
use Rattle.get_read.specs.Progress.{GivesRun, IsStripeBy, StripeAnswers}
use Rattle.get_read.specs.Causes.{digest_in}
use Rattle.get_read.specs.Stripes.{IsRebuilt, JudgesStripe}
use Rattle.get_read.specs.Letters.{BlockLetter, GaveBlockIn, IsBlockIn, IsTableIn, NoBlockOf, TellsNoBytes, TellsNoTable}
use Rattle.get_read.specs.PassedDrives.{PassesDrive, PassesOver}
use Rattle.get_read.specs.Readers.{AreTablesOf, IsStripe, IsStripeOf, Told, all_calls}
use Rattle.get_read.specs.Refusing.{FewGiveIn}
use Rattle.get_read.specs.Blocks.{AreAtHand, AreSifted, IsRow, block_at, row_at, stored_at}
use Rattle.get_read.specs.declared.faults.BodyFault.{BodyFault}
use Rattle.get_read.specs.declared.faults.BodyFault.TheVariants.{InvalidRange, ShardQuorum, NoMemory}
use Rattle.get_read.specs.declared.state.StripeWork.{StripeWork}
use Rattle.get_read.proofs.AccountLemmas.{block_on, gave_late, no_block_on, stands_last, table_on}
use Rattle.get_read.proofs.PieceLemmas.{piece_added, piece_stays}
use Rattle.get_read.proofs.SiftLemmas.{count_less}
use Rattle.get_read.proofs.StripeByLemmas.{rebuilt_by}

-- how many of so many good letters are good
good_all : (n : ℕ) → good_count (replicate n Good) ≡ n
good_all n =
    let all : good_count (replicate n Good) ≡ n * 1 = sum_by-replicate (λ (w : Why). cond (is_good w) 1 0) n Good in
    omega (arith, all)

module _ (set : SetPlan) (part : ManifestPart) (i size : ℕ) where
  -- no block is read
  pub fresh_stripe : (found : Blocks) (tried : ℕ) (whys : List Why) (calls since : Account) → PassesOver set 0 tried (replicate set.drives Good) whys
      → found.rows.items ≡ [] → IsStripe set part i size found tried whys calls since
  fresh_stripe found tried whys calls since over none =
      let empty : length found.rows.items ≡ 0 = ap (length {A = ℕ}) none in
      record {
        each = λ j low. absurd (omega arith);
        rows_in_use = λ j low. absurd (omega arith);
        tried_so = λ k low. inr (inl (over.out k (omega arith) low));
        next_in_use = over.in_use;
        sum = omega (arith, over.sum, good_all set.drives);
      }

  -- a call was made that changes nothing of it
  pub stripe_on : (found : Blocks) (tried : ℕ) (whys : List Why) (calls since more : Account) → IsStripe set part i size found tried whys calls since
      → IsStripe set part i size found tried whys (calls ++ more) (since ++ more)
  stripe_on found tried whys calls since more is = record {
    each = λ j low. block_on _ part i _ calls since more _ _ _ (is.each j low);
    rows_in_use = is.rows_in_use;
    tried_so = λ k low. elim (is.tried_so k low) [
      | inl row ↦ inl row
      | inr none ↦ inr (no_block_on _ part i _ set.out calls since more k _ none)
    ];
    next_in_use = is.next_in_use;
    sum = is.sum;
  }

  -- the cause of a drive that is left or is out behind it
  passed_so : (tried next : ℕ) (why : Why) (old new : List Why) (calls since : Account) → PassesDrive set why tried next old new
      → (k : ℕ) → tried < k → k < next
      → NoBlockOf (data_drives set.drives set.parity) part i (slice_index_or part.roots k []) set.out calls since k (slice_index_or new k Good)
  passed_so tried next why old new calls since passes k past before = inl (passes.out k past before)

  -- the next drive is left, with what its call tells
  pub stripe_passed : (found : Blocks) (tried next : ℕ) (whys new : List Why) (calls since : Account) (why : Why) (seen : Seen) (made : MadeCall)
      → Tells made seen → IsStripe set part i size found tried whys calls since → tried < set.drives → length whys ≡ set.drives
      → slice_index_or whys tried Good ≡ Good → is_good why ≡ false → PassesDrive set why tried next whys new
      → TellsNoTable (data_drives set.drives set.parity) part (slice_index_or part.roots tried []) why seen
      ⊎ TellsNoBytes (data_drives set.drives set.parity) part i why seen
      → IsStripe set part i size found next new (calls ++ record { drive = tried; made = made } ∷ []) (since ++ record { drive = tried; made = made } ∷ [])
  stripe_passed found tried next whys new calls since why seen made seen_so is low counted was bad passes tells =
      let call : Call = record { drive = tried; made = made } in
      let all = calls ++ call ∷ [] in
      let late = since ++ call ∷ [] in
      let d = data_drives set.drives set.parity in
      let on = stripe_on found tried whys calls since (call ∷ []) is in
      let less = count_less whys tried why (omega arith) was bad in
      record {
        each = on.each;
        rows_in_use = on.rows_in_use;
        tried_so = λ k before. elim (cases_lt k tried) [
          | inl lower ↦ elim (on.tried_so k lower) [
            | inl row ↦ inl row
            | inr none ↦ inr (subst (λ (w : Why). NoBlockOf d part i (slice_index_or part.roots k []) set.out all late k w) (sym (passes.before k lower)) none)
          ]
          | inr past ↦ elim (cases_eq k tried) [
            | inl same ↦
                inr (subst (λ (j : ℕ). NoBlockOf d part i (slice_index_or part.roots j []) set.out all late j (slice_index_or new j Good)) (sym same)
                (subst (λ (w : Why). NoBlockOf d part i (slice_index_or part.roots tried []) set.out all late tried w) (sym passes.letter)
                (inr (is.next_in_use low, inl (seen, stands_last since call seen seen_so, tells)))))
            | inr apart ↦ inr (passed_so tried next why whys new all late passes k (omega arith) before)
          ]
        ];
        next_in_use = passes.in_use;
        sum = omega (arith, is.sum, passes.sum, less);
      }

  -- a block of a drive, told otherwise
  block_as : (calls since : Account) (k k_now : ℕ) (stored stored_now block block_now : List ℕ) → k_now ≡ k → stored_now ≡ stored → block_now ≡ block
      → IsBlockIn (data_drives set.drives set.parity) part i (slice_index_or part.roots k []) calls since k stored block
      → IsBlockIn (data_drives set.drives set.parity) part i (slice_index_or part.roots k_now []) calls since k_now stored_now block_now
  block_as calls since k k_now stored stored_now block block_now same_drive same_digest same_block is =
      let d = data_drives set.drives set.parity in
      subst (λ (m : ℕ). IsBlockIn d part i (slice_index_or part.roots m []) calls since m stored_now block_now) (sym same_drive)
      (subst (λ (s : List ℕ). IsBlockIn d part i (slice_index_or part.roots k []) calls since k s block_now) (sym same_digest)
      (subst (λ (b : List ℕ). IsBlockIn d part i (slice_index_or part.roots k []) calls since k stored b) (sym same_block) is))

  -- the block of the next drive is at hand
  pub stripe_added : (found next_found : Blocks) (tried next : ℕ) (whys new : List Why) (calls since : Account) (stored block : List ℕ) (made : MadeCall)
      → IsStripe set part i size found tried whys calls since → AreAtHand size found whys → tried < set.drives
      → slice_index_or whys tried Good ≡ Good → PassesDrive set Good tried next whys new
      → next_found.rows.items ≡ found.rows.items ++ tried ∷ [] → next_found.stored.items ≡ found.stored.items ++ stored ∷ []
      → next_found.bytes.items ≡ found.bytes.items ++ block → length block ≡ size
      → IsBlockIn (data_drives set.drives set.parity) part i (slice_index_or part.roots tried []) (calls ++ record { drive = tried; made = made } ∷ [])
      (since ++ record { drive = tried; made = made } ∷ []) tried stored block
      → IsStripe set part i size next_found next new (calls ++ record { drive = tried; made = made } ∷ []) (since ++ record { drive = tried; made = made } ∷ [])
  stripe_added found next_found tried next whys new calls since stored block made is hand low was passes rows_are stored_are bytes_are long gives =
      let call : Call = record { drive = tried; made = made } in
      let all = calls ++ call ∷ [] in
      let late = since ++ call ∷ [] in
      let d = data_drives set.drives set.parity in
      let rows = found.rows.items in
      let on = stripe_on found tried whys calls since (call ∷ []) is in
      let count_rows : length next_found.rows.items ≡ length rows + 1 = ap (length {A = ℕ}) rows_are ∙ length-append rows (tried ∷ []) in
      let before_row : (j : ℕ) → j < length rows → row_at next_found j ≡ row_at found j =
      λ j before. ap (λ (r : List ℕ). slice_index r j) rows_are ∙ get_or_append_left rows (tried ∷ []) 0 j before in
      let last_row : row_at next_found (length rows) ≡ tried = ap (λ (r : List ℕ). slice_index r (length rows)) rows_are ∙ get_or-append_seam rows tried [] 0 in
      let last_stored : stored_at next_found (length rows) ≡ stored =
      ap (λ (s : List (List ℕ)). slice_index_or s (length rows) []) stored_are
      ∙ ap (λ (m : ℕ). slice_index_or (found.stored.items ++ stored ∷ []) m []) (sym hand.hashes) ∙ get_or-append_seam found.stored.items stored [] [] in
      let last_block : block_at size next_found (length rows) ≡ block =
      ap (λ (b : List ℕ). piece size b (length rows)) bytes_are ∙ piece_added size (length rows) found.bytes.items block hand.long long in
      let same : slice_set whys tried Good ≡ whys = ap (slice_set whys tried) (sym was) ∙ set-get_or whys tried Good in
      record {
        each = λ j inside. elim (cases_lt j (length rows)) [
          | inl before ↦
              block_as all late (row_at found j) (row_at next_found j) (stored_at found j) (stored_at next_found j) (block_at size found j) (block_at size next_found j)
              (before_row j before)
              (ap (λ (s : List (List ℕ)). slice_index_or s j []) stored_are ∙ get_or_append_left found.stored.items (stored ∷ []) [] j (omega (arith, before, hand.hashes)))
              (ap (λ (b : List ℕ). piece size b j) bytes_are ∙ piece_stays size (length rows) j found.bytes.items block hand.long before)
              (on.each j before)
          | inr past ↦
              let at : length rows ≡ j = omega (arith, inside, count_rows) in
              subst (λ (m : ℕ). IsBlockIn d part i (slice_index_or part.roots (row_at next_found m) []) all late (row_at next_found m) (stored_at next_found m) (block_at size next_found m)) at
              (block_as all late tried (row_at next_found (length rows)) stored (stored_at next_found (length rows)) block (block_at size next_found (length rows))
              last_row last_stored last_block gives)
        ];
        rows_in_use = λ j inside. elim (cases_lt j (length rows)) [
          | inl before ↦ λ out. is.rows_in_use j before (subst (IsBitSet set.out) (before_row j before) out)
          | inr past ↦
              let at : j ≡ length rows = omega (arith, inside, count_rows) in
              λ out. is.next_in_use low (subst (IsBitSet set.out) (ap (row_at next_found) at ∙ last_row) out)
        ];
        tried_so = λ k before. elim (cases_lt k tried) [
          | inl lower ↦ elim (on.tried_so k lower) [
            | inl row ↦ inl (row.0, omega (arith, row.1, count_rows), before_row row.0 row.1 ∙ row.2)
            | inr none ↦ inr (subst (λ (w : Why). NoBlockOf d part i (slice_index_or part.roots k []) set.out all late k w) (sym (passes.before k lower)) none)
          ]
          | inr past ↦ elim (cases_eq k tried) [
            | inl at ↦ inl (length rows, omega (arith, count_rows), last_row ∙ sym at)
            | inr apart ↦ inr (passed_so tried next Good whys new all late passes k (omega arith) before)
          ]
        ];
        next_in_use = passes.in_use;
        sum = omega (arith, is.sum, passes.sum, ap good_count same, count_rows);
      }

  -- the blocks that are left of it after they were compared
  pub stripe_sifted : (place : ℕ) (found next : Blocks) (tried : ℕ) (whys new : List Why) (calls since : Account) → AreAtHand size found whys
      → AreSifted size place found next whys new → IsStripe set part i size found tried whys calls since
      → IsStripe set part i size next tried new calls since
  stripe_sifted place found next tried whys new calls since hand sifted is =
      let d = data_drives set.drives set.parity in
      record {
        each = λ j low.
            let row_of = sifted.rows j low in
            block_as calls since (row_at found row_of.0) (row_at next j) (stored_at found row_of.0) (stored_at next j) (block_at size found row_of.0) (block_at size next j)
            row_of.3 row_of.4 row_of.5 (is.each row_of.0 row_of.1);
        rows_in_use = λ j low.
            let row_of = sifted.rows j low in
            λ out. is.rows_in_use row_of.0 row_of.1 (subst (IsBitSet set.out) row_of.3 out);
        tried_so = λ k low. elim (sifted.causes k) [
          | inl same ↦ elim (is.tried_so k low) [
            | inl row ↦
                let good : slice_index_or whys k Good ≡ Good = ap (λ (j : ℕ). slice_index_or whys j Good) (sym row.2) ∙ hand.good row.0 row.1 in
                inl (subst (IsRow next) row.2
                (sifted.stays row.0 row.1 (ap (λ (j : ℕ). slice_index_or new j Good) row.2 ∙ same ∙ good)))
            | inr none ↦ inr (subst (λ (w : Why). NoBlockOf d part i (slice_index_or part.roots k []) set.out calls since k w) (sym same) none)
          ]
          | inr told ↦
              let row = told.0 in
              let block = is.each row told.1 in
              inr (subst (λ (w : Why). NoBlockOf d part i (slice_index_or part.roots k []) set.out calls since k w) (sym told.4)
              (inr (
                (λ out. is.rows_in_use row told.1 (subst (IsBitSet set.out) (sym told.2) out)),
                inr (
                  stored_at found row,
                  block_at size found row,
                  subst (λ (j : ℕ). IsBlockIn d part i (slice_index_or part.roots j []) calls since j (stored_at found row) (block_at size found row)) told.2 block,
                  told.3,
                  refl,
                ),
              )))
        ];
        next_in_use = is.next_in_use;
        sum = omega (arith, is.sum, sifted.sum);
      }

  -- a block that has its digest was given
  pub gave_row : (found : Blocks) (tried : ℕ) (whys : List Why) (calls since : Account) → IsStripe set part i size found tried whys calls since
      → (j : ℕ) → j < length found.rows.items → stored_at found j ≡ sha256 (block_at size found j)
      → GaveBlockIn (data_drives set.drives set.parity) part i (slice_index_or part.roots (row_at found j) []) calls since (row_at found j) (block_at size found j)
  gave_row found tried whys calls since is j low same = record { digest = stored_at found j; is_block = is.each j low; same = same }

  -- all drives were tried, and those that verify are too few
  pub stripe_few : (found next : Blocks) (tried : ℕ) (whys new : List Why) (calls since : Account) → i < stripe_count part.length
      → AreAtHand size found whys → AreSifted size 0 found next whys new → tried ≡ set.drives → length whys ≡ set.drives
      → length next.rows.items < data_drives set.drives set.parity → IsStripe set part i size found tried whys calls since
      → FewGiveIn set part i new calls since
  stripe_few found next tried whys new calls since within hand sifted all counted fewer is =
      let d = data_drives set.drives set.parity in
      let left = stripe_sifted 0 found next tried whys new calls since hand sifted is in
      record {
        within = within;
        counted = sifted.counted ∙ counted;
        few = omega (arith, left.sum, all, fewer);
        each = λ k low. elim (left.tried_so k (omega (arith, all))) [
          | inl row ↦ subst (λ (j : ℕ). BlockLetter d part i (slice_index_or part.roots j []) set.out calls since j (slice_index_or new j Good)) row.2
              (inl (
                sifted.at_hand.good row.0 row.1,
                left.rows_in_use row.0 row.1,
                (block_at size next row.0, gave_row next tried new calls since left row.0 row.1 (sifted.verified row.0 (omega arith) row.1)),
              ))
          | inr none ↦ inr none
        ];
      }

-- a table that a call shows now is one of the account
pub table_now : (d : ℕ) (part : ManifestPart) (root : List ℕ) (calls : Account) (k : ℕ) (table : List ℕ) (made : MadeCall)
    → Tells made (Showed (shard_name part.id) (table_place d part.length) table) → length table ≡ 32 * stripe_count part.length
    → IsBytes table → root ≡ sha256 table
    → IsTableIn d part root (calls ++ record { drive = k; made = made } ∷ []) k table
table_now d part root calls k table made tells size bytes digest = record {
  size = size;
  bytes = bytes;
  digest = digest;
  showed = (
    table_place d part.length,
    0,
    table,
    stands_last calls (record { drive = k; made = made }) _ tells,
    omega arith,
    sym (take_all (length table) table (omega arith)),
  );
}

-- the tables that are held, with one more
pub tables_more : (d : ℕ) (part : ManifestPart) (old new : List (List ℕ)) (calls : Account) (k : ℕ) (table : List ℕ) (made : MadeCall)
    → AreTablesOf d part old calls → new ≡ slice_set old k table → k < length old
    → IsTableIn d part (slice_index_or part.roots k []) (calls ++ record { drive = k; made = made } ∷ []) k table
    → AreTablesOf d part new (calls ++ record { drive = k; made = made } ∷ [])
tables_more d part old new calls k table made held is low now =
    let call : Call = record { drive = k; made = made } in
    let late = calls ++ call ∷ [] in
    subst (λ (t : List (List ℕ)). AreTablesOf d part t late) (sym is) (λ j inside. elim (cases_eq j k) [
      | inl same ↦
          subst (λ (m : ℕ). (slice_index_or (slice_set old k table) m [] ≡ []) ⊎ IsTableIn d part (slice_index_or part.roots m []) late m
          (slice_index_or (slice_set old k table) m [])) (sym same)
          (inr (subst (λ (t : List ℕ). IsTableIn d part (slice_index_or part.roots k []) late k t)
          (sym (get_or-set_same old k table [] low)) now))
      | inr apart ↦
          let other : slice_index_or (slice_set old k table) j [] ≡ slice_index_or old j [] = get_or-set_other old k j table [] apart in
          subst (λ (t : List ℕ). (t ≡ []) ⊎ IsTableIn d part (slice_index_or part.roots j []) late j t) (sym other)
          (elim (held j (omega (arith, inside, length-set old k table))) [
            | inl none ↦ inl none
            | inr was ↦ inr (table_on d part _ calls (call ∷ []) j _ was)
          ])
    ])

-- they are held on
pub tables_on : (d : ℕ) (part : ManifestPart) (tables : List (List ℕ)) (calls more : Account) → AreTablesOf d part tables calls
    → AreTablesOf d part tables (calls ++ more)
tables_on d part tables calls more held = λ j inside. elim (held j inside) [
  | inl none ↦ inl none
  | inr was ↦ inr (table_on d part _ calls more j _ was)
]

-- a block that a call shows now, by a table that is held
pub block_now : (d : ℕ) (part : ManifestPart) (i : ℕ) (root : List ℕ) (calls since : Account) (k : ℕ) (table stored block : List ℕ) (made : MadeCall)
    → Tells made (Showed (shard_name part.id) (block_place d i) block) → IsTableIn d part root calls k table
    → length block ≡ block_size d (stripe_length part.length i) → IsBytes block → stored ≡ digest_in table i
    → IsBlockIn d part i root (calls ++ record { drive = k; made = made } ∷ []) (since ++ record { drive = k; made = made } ∷ []) k stored block
block_now d part i root calls since k table stored block made tells is_table size bytes is_stored =
    let call : Call = record { drive = k; made = made } in
    record {
      table = table;
      is_table = table_on d part root calls (call ∷ []) k table is_table;
      size = size;
      bytes = bytes;
      stored = is_stored;
      showed = (block_place d i, 0, block, stands_last since call _ tells, omega arith, sym (take_all (length block) block (omega arith)));
    }

-- what is made of the blocks that are at hand
module _ {Z : Type 0} (set : SetPlan) (part : ManifestPart) where
  pub judged_so : (long : ℕ) (told : Told) (result : Result (Option (Vec ℕ Z)) BodyFault) (old new : StripeWork)
      → long ≡ stripe_length part.length old.stripe → old.stripe < stripe_count part.length
      → old.size ≡ block_size (data_drives set.drives set.parity) (stripe_length part.length old.stripe)
      → AreAtHand old.size old.found old.whys → length old.whys ≡ set.drives
      → IsStripeOf set part old (all_calls told) told.since → JudgesStripe set long result old new
      → new.tried ≡ old.tried → new.stripe ≡ old.stripe → new.size ≡ old.size → StripeAnswers set part result new told
  judged_so long told (Ok None) old new long_is within size_is hand counted is judges tried stripe size =
      let next = stripe_sifted set part old.stripe old.size judges.0.0 old.found new.found old.tried old.whys new.whys (all_calls told) told.since hand judges.0.1 is in
      rw (tried, stripe, size) next
  judged_so long told (Ok (Some bytes)) old new long_is within size_is hand counted is judges tried stripe size =
      let found = judges.0 in
      let sifted : AreSifted old.size 0 old.found found old.whys new.whys = judges.1 in
      let next = stripe_sifted set part old.stripe old.size 0 old.found found old.tried old.whys new.whys (all_calls told) told.since hand sifted is in
      let below : All (λ row. row < set.drives) found.rows.items =
      All-weaker (λ row. row < length new.whys) (λ row. row < set.drives) (λ row low. omega (arith, low, sifted.counted, counted)) found.rows.items sifted.at_hand.below in
      let rebuilt : IsRebuilt set old.size (stripe_length part.length old.stripe) found bytes.items =
      subst (λ (n : ℕ). IsRebuilt set old.size n found bytes.items) long_is judges.3 in
      let by : IsStripeBy set part old.stripe bytes.items (all_calls told) =
      rebuilt_by set part old.stripe old.size found bytes.items (all_calls told) within size_is below
      (λ j low. gave_late (data_drives set.drives set.parity) part old.stripe (slice_index_or part.roots (row_at found j) []) told.before told.since (row_at found j) _
      (gave_row set part old.stripe old.size found old.tried new.whys (all_calls told) told.since next j low (sifted.verified j (omega arith) low)))
      rebuilt in
      subst (λ (i : ℕ). GivesRun set part i bytes.items (all_calls told)) (sym stripe) (stripe_size, omega arith, by)
  judged_so long told (Err (InvalidRange end)) old new long_is within size_is hand counted is judges tried stripe size = judges
  judged_so long told (Err (ShardQuorum whys)) old new long_is within size_is hand counted is judges tried stripe size =
      subst (λ (i : ℕ). FewGiveIn set part i whys (all_calls told) told.since) (sym stripe)
      (stripe_few set part old.stripe old.size judges.0 new.found old.tried judges.1 whys (all_calls told) told.since within judges.2.1.at_hand judges.3
      (sym tried ∙ judges.5) (judges.2.1.counted ∙ counted) judges.4
      (stripe_sifted set part old.stripe old.size judges.2.0 old.found judges.0 old.tried old.whys judges.1 (all_calls told) told.since hand judges.2.1 is))
  judged_so long told (Err NoMemory) old new long_is within size_is hand counted is judges tried stripe size = tt

-- a table that hasn't the root
pub table_damaged : (d : ℕ) (part : ManifestPart) (root name table : List ℕ) (damage : Damage) (was now : DriveView) → name ≡ shard_name part.id
    → length table ≡ 32 * stripe_count part.length → WasSeen (Showed name (table_place d part.length) table) was now → Checks {T = Unit {0}} root table (Err damage)
    → WasSeenSo (TellsNoTable d part root (Damaged damage)) was now
table_damaged d part root name table (Short n) was now same size seen checks = absurd checks
table_damaged d part root name table (Kind n) was now same size seen checks = absurd checks
table_damaged d part root name table (Spelling n) was now same size seen checks = absurd checks
table_damaged d part root name table (Long n) was now same size seen checks = absurd checks
table_damaged d part root name table (Digest stored computed) was now same size seen checks =
    let seen_so : WasSeen (Showed (shard_name part.id) (table_place d part.length) table) was now =
    subst (λ (b : List ℕ). WasSeen (Showed b (table_place d part.length) table) was now) same seen in
    let told : Damaged (Digest stored computed) ≡ Damaged (Digest root (sha256 table)) =
    ap (λ (s : List ℕ). Damaged (Digest s computed)) checks.0 ∙ ap (λ (s : List ℕ). Damaged (Digest root s)) checks.1 in
    (Showed (shard_name part.id) (table_place d part.length) table, seen_so, inr (table, refl, size, checks.2, told))
