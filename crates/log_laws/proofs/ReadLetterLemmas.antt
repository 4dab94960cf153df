-- The letters of a read, of a drive whose calls give what it keeps.
use Rattle.std.proofs.Common.{◌≡◌, ◌∙◌, ◌+◌, ◌*◌, ◌<◌, ℕ, List, [], Contains, drop, length, slice_index_or, take, ap, inl, inr, refl, sym, arith}
use Rattle.std.proofs.lemmas.List.{take_all}
use Rattle.sha2.specs.Sha256.{sha256}
use Rattle.call_types.specs.declared.why.FileKind.TheVariants.{Format, Manifest as TheManifest, Register, Shard}
use Rattle.call_types.specs.declared.why.Why.{Why}
use Rattle.call_types.specs.declared.why.Why.TheVariants.{Behind, Damaged, Failed, Good, Lacks}
use Rattle.drive_base.specs.Calls.{Seen}
use Rattle.drive_base.specs.Calls.Seen.{CutShort, Faulted, Missing, Showed, Sized, Unwritten}
use Rattle.drive_base.specs.declared.plan.SetPlan.{SetPlan}
use Rattle.body_print.specs.Names.{manifest_name, shard_name}
use Rattle.manifest_file.specs.Spelling.{file_of}
use Rattle.manifest_file.specs.Table.{ManifestsAreNoLonger}
use Rattle.manifest_file.specs.declared.manifest.Manifest.{Manifest}
use Rattle.manifest_file.specs.declared.manifest.TheConstants.{LONGEST_FILE}
use Rattle.shard_file.specs.Shards.{AreShardBlocks, root_of, shard_bytes, table_of}
use Rattle.shard_file.specs.Stripes.{stripe_count}
use Rattle.receipts.specs.Events.{Event, Log, Saw}
use Rattle.receipts.specs.Events.Event.{Called}
use Rattle.receipts.specs.Letters.{BlockLetter, IsBadShard, IsInUse, ManifestLetter, Serves, ShowedAt, ShowedBlock, ShowedTable, Wanted, Wants}
use Rattle.log_laws.proofs.ReadShardLemmas.{block_is, block_within, digest_is, piece_of_piece, table_is, table_within}

-- what a call told is so of the files that a drive keeps
abbrev pub SeenOf : (List ℕ → List ℕ → Type 0) → Seen → Type 0
SeenOf Kept (Sized name n) = (file : List ℕ) → Kept name file → n ≡ length file
SeenOf Kept (Showed name at bytes) = (file : List ℕ) → Kept name file → bytes ≡ take (length bytes) (drop at file)
SeenOf Kept (CutShort name at long place) = (file : List ℕ) → Kept name file → length file < at + long
SeenOf Kept (Missing name) = (file : List ℕ) → Kept name file → ⊥
SeenOf Kept (Unwritten name) = Unit {0}
SeenOf Kept (Faulted name before after) = ⊥

-- what a part of a log saw the log saw
pub saw_in : (since log : Log) → ((event : Event) → Contains since event → Contains log event) → (k : ℕ) (seen : Seen) → Saw since k seen → Saw log k seen
saw_in since log later k seen saw = record { made = saw.made; called = later (Called k saw.made) saw.called; tells = saw.tells }

module _ (set : SetPlan) (log : Log) (k : ℕ) (Kept : List ℕ → List ℕ → Type 0) (so : (seen : Seen) → Saw log k seen → SeenOf Kept seen)
    (in_use : IsInUse set k) where
  -- a drive that keeps a manifest which serves has no letter that says it gave none
  pub manifest_given : ManifestsAreNoLonger LONGEST_FILE → (wanted : Wanted) (m : Manifest) → Kept (manifest_name wanted.id) (file_of m) → Serves set wanted m
      → (why : Why) → ManifestLetter set wanted log k why → ⊥
  manifest_given lengths wanted m kept serves Good letter = letter
  manifest_given lengths wanted m kept serves (Failed before after) letter = so (Faulted (manifest_name wanted.id) before after) letter.1
  manifest_given lengths wanted m kept serves (Damaged damage) (used, inl (long, sized, more)) =
      let size = so (Sized (manifest_name wanted.id) long) sized (file_of m) kept in
      let few = set.few_drives in
      let same = serves.drives in
      let most = lengths m serves.canonical (omega (arith, few, same)) in
      absurd (omega (arith, size, most, more))
  manifest_given lengths wanted m kept serves (Damaged damage) (used, inr (inl cut)) =
      let size = so (Sized (manifest_name wanted.id) cut.long) cut.sized (file_of m) kept in
      let ends = so (CutShort (manifest_name wanted.id) 0 cut.long cut.place) cut.short (file_of m) kept in
      absurd (omega (arith, size, ends))
  manifest_given lengths wanted m kept serves (Damaged damage) (used, inr (inr (file, un))) =
      let size = so (Sized (manifest_name wanted.id) (length file)) un.sized (file_of m) kept in
      let piece = so (Showed (manifest_name wanted.id) 0 file) un.showed (file_of m) kept in
      un.none m serves (piece ∙ take_all (length file) (file_of m) (omega (arith, size)))
  manifest_given lengths wanted m kept serves (Behind ballot) letter = letter
  manifest_given lengths wanted m kept serves (Lacks Format) letter = in_use letter
  manifest_given lengths wanted m kept serves (Lacks Register) letter = letter
  manifest_given lengths wanted m kept serves (Lacks TheManifest) letter = so (Missing (manifest_name wanted.id)) letter.1 (file_of m) kept
  manifest_given lengths wanted m kept serves (Lacks Shard) letter = letter

  -- what it showed is a piece of what it keeps
  shown_piece : (name file bytes : List ℕ) (place : ℕ) → Kept name file → ShowedAt log k name place bytes → bytes ≡ take (length bytes) (drop place file)
  shown_piece name file bytes place kept x = piece_of_piece file x.more bytes x.from x.gap place (so (Showed name x.from x.more) x.called file kept) x.place_is x.piece

  module _ (wants : Wants) (blocks : List (List ℕ)) (kept : Kept (shard_name wants.part.id) (shard_bytes blocks))
      (fit : AreShardBlocks wants.d wants.part.length blocks) (root : wants.root ≡ root_of blocks) (some : 0 < wants.d)
      (low : wants.stripe < stripe_count wants.part.length) where
    shown_table : (table : List ℕ) → ShowedTable wants log k table → table ≡ table_of blocks
    shown_table table x = table_is wants.d wants.part.length blocks fit table (omega (arith, low)) x.size
        (shown_piece (shard_name wants.part.id) (shard_bytes blocks) table _ kept x.showed)

    shown_block : (block : List ℕ) → ShowedBlock wants log k block → block ≡ slice_index_or blocks wants.stripe []
    shown_block block x = block_is wants.d wants.part.length blocks fit wants.stripe low block x.size
        (shown_piece (shard_name wants.part.id) (shard_bytes blocks) block _ kept x.showed)

    module _ (since : Log) (later : (event : Event) → Contains since event → Contains log event) where
      widened : (name bytes : List ℕ) (place : ℕ) → ShowedAt since k name place bytes → ShowedAt log k name place bytes
      widened name bytes place x = record {
        from = x.from;
        gap = x.gap;
        more = x.more;
        called = saw_in since log later k (Showed name x.from x.more) x.called;
        place_is = x.place_is;
        piece = x.piece;
      }

      -- none of its shard is bad
      none_bad : IsBadShard wants log since k → ⊥
      none_bad (inl bad) = bad.differs (root ∙ ap sha256 (sym (shown_table bad.table (record {
        size = bad.showed.size;
        showed = widened (shard_name wants.part.id) bad.table _ bad.showed.showed;
      }))))
      none_bad (inr (inl bad)) =
          let table = shown_table bad.table bad.showed_table in
          let block = shown_block bad.block (record { size = bad.showed.size; showed = widened (shard_name wants.part.id) bad.block _ bad.showed.showed }) in
          bad.differs (ap (λ (t : List ℕ). take 32 (drop (32 * wants.stripe) t)) table
          ∙ (digest_is wants.d wants.part.length blocks fit wants.stripe low ∙ ap sha256 (sym block)))
      none_bad (inr (inr cut)) =
          let ends = so (CutShort (shard_name wants.part.id) cut.place cut.long cut.ends)
          (saw_in since log later k (CutShort (shard_name wants.part.id) cut.place cut.long cut.ends) cut.short) (shard_bytes blocks) kept in
          elim cut.asked [
            | inl table ↦
                let there = table_within wants.d wants.part.length blocks fit some in
                let place = table.0 in
                let long = table.1 in
                absurd (omega (arith, ends, there, place, long))
            | inr block ↦
                let there = block_within wants.d wants.part.length blocks fit wants.stripe low in
                let place = block.0 in
                let long = block.1 in
                absurd (omega (arith, ends, there, place, long))
          ]

      -- a drive that keeps the part's shard has a good letter
      pub block_good : (why : Why) → BlockLetter set wants log since k why → why ≡ Good
      block_good Good letter = refl
      block_good (Failed before after) letter =
          absurd (so (Faulted (shard_name wants.part.id) before after) (saw_in since log later k (Faulted (shard_name wants.part.id) before after) letter.1))
      block_good (Damaged damage) letter = absurd (none_bad letter.1)
      block_good (Behind ballot) letter = absurd letter
      block_good (Lacks Format) letter = absurd (in_use letter)
      block_good (Lacks Register) letter = absurd letter
      block_good (Lacks TheManifest) letter = absurd letter
      block_good (Lacks Shard) letter =
          absurd (so (Missing (shard_name wants.part.id)) (saw_in since log later k (Missing (shard_name wants.part.id)) letter.1) (shard_bytes blocks) kept)
