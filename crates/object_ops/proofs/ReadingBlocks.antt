-- Why too few drives gave a block, by the log that has the calls of a reader.
use Rattle.std.proofs.Common.{◌≡◌, ◌⊎◌, ◌*◌, ◌∙◌, ℕ, List, [], length, slice_index_or, inl, inr, ap, refl, subst, sym, arith}
use Rattle.std.proofs.lemmas.List.{take_all}
use Rattle.seal_file.specs.declared.damage.Damage.TheVariants as damage
use Rattle.stamp_id.specs.declared.version.VersionId.{VersionId}
use Rattle.call_types.specs.declared.why.FileKind.TheVariants as kind
use Rattle.call_types.specs.declared.why.Why.{Why}
use Rattle.call_types.specs.declared.why.Why.TheVariants as letter
use Rattle.drive_base.specs.Calls.{Seen}
use Rattle.drive_base.specs.Calls.Seen.{CutShort, Faulted, Missing, Showed}
use Rattle.drive_base.specs.Plan.{data_drives}
use Rattle.drive_base.specs.declared.plan.SetPlan.{SetPlan}
use Rattle.manifest_file.specs.declared.manifest.ManifestPart.{ManifestPart}
use Rattle.shard_file.specs.Shards.{block_place, table_place}
use Rattle.shard_file.specs.Stripes.{block_size, stripe_count, stripe_length}
use Rattle.body_print.specs.Names.{manifest_name, shard_name}
use Rattle.manifest_file.specs.Spelling.{file_of}
use Rattle.get_read.specs.Account.{Account, Stands}
use Rattle.get_read.specs.Letters.{BlockLetter as ReaderLetter, GaveBlockIn, IsOtherBlock, NoBlockOf, ShowedAt as ReaderShowed, TellsNoPiece, TellsNoTable, TellsNone}
use Rattle.get_read.specs.Readers.{Told, all_calls}
use Rattle.get_read.specs.Refusing.{FewBlocksIn}
use Rattle.receipts.specs.Events.{Log, Saw}
use Rattle.receipts.specs.Letters.{BlockLetter, FewBlocks, IsGoodBlock, IsInUse, IsSinceTurned, ShowedAt, Wants}
use Rattle.object_ops.specs.ReadingTold.{AreLogged, IsLogged}
use Rattle.object_ops.proofs.ReadingManifest.{serves, wanted}
use Rattle.object_ops.proofs.ReadingSpans.{saw_so}

-- bytes that were shown
showed : (calls : Account) (log : Log) (k : ℕ) (name : List ℕ) (place : ℕ) (bytes : List ℕ) → AreLogged calls log → ReaderShowed calls k name place bytes
    → ShowedAt log k name place bytes
showed calls log k name place bytes logged x = record {
  from = x.0;
  gap = x.1;
  more = x.2;
  called = saw_so calls log logged k (Showed name x.0 x.2) x.3;
  place_is = x.4;
  piece = x.5;
}

module _ (set : SetPlan) (d : ℕ) (part : ManifestPart) (stripe : ℕ) (root : List ℕ) (calls turned : Account) (log since : Log)
    (logged : AreLogged calls log) (logged_since : AreLogged turned since) (k : ℕ) where
  abbrev the_wants : Wants
  the_wants = record { d = d; part = part; stripe = stripe; root = root }

  here : (seen : Seen) (told : Seen) → Stands turned k seen → seen ≡ told → Saw since k told
  here seen told stands is = subst (Saw since k) is (saw_so turned since logged_since k seen stands)

  module _ (in_use : IsInUse set k) where
    -- too few bytes came, of the table or of the block
    no_piece : (why : Why) (place long : ℕ) (seen : Seen) → Stands turned k seen → TellsNoPiece kind.Shard (shard_name part.id) place long why seen
        → ((place ≡ table_place d part.length) × (long ≡ 32 * stripe_count part.length))
        ⊎ ((place ≡ block_place d stripe) × (long ≡ block_size d (stripe_length part.length stripe)))
        → BlockLetter set the_wants log since k why
    no_piece letter.Good place long seen stands x asked = absurd x
    no_piece (letter.Failed before after) place long seen stands x asked = (in_use, here seen (Faulted (shard_name part.id) before after) stands x)
    no_piece (letter.Damaged (damage.Short ends)) place long seen stands x asked = (
      in_use,
      inr (inr (record {
        place = place;
        long = long;
        ends = ends;
        asked = asked;
        short = here seen (CutShort (shard_name part.id) place long ends) stands x;
      })),
    )
    no_piece (letter.Damaged (damage.Digest stored computed)) place long seen stands x asked = absurd x
    no_piece (letter.Damaged (damage.Kind found)) place long seen stands x asked = absurd x
    no_piece (letter.Damaged (damage.Spelling at)) place long seen stands x asked = absurd x
    no_piece (letter.Damaged (damage.Long size)) place long seen stands x asked = absurd x
    no_piece (letter.Behind ballot) place long seen stands x asked = absurd x
    no_piece (letter.Lacks lacked) place long seen stands x asked = subst (λ l. BlockLetter set the_wants log since k (letter.Lacks l)) (sym x.0)
        (in_use, here seen (Missing (shard_name part.id)) stands x.1)

    no_table : (why : Why) (seen : Seen) → Stands turned k seen → TellsNoTable d part root why seen → BlockLetter set the_wants log since k why
    no_table why seen stands (inl x) = no_piece why _ _ seen stands x (inl (refl, refl))
    no_table why seen stands (inr x) = subst (BlockLetter set the_wants log since k) (sym x.4) (
      in_use,
      inl (record {
        table = x.0;
        showed = record {
          size = x.2;
          showed = record {
            from = table_place d part.length;
            gap = 0;
            more = x.0;
            called = here seen (Showed (shard_name part.id) (table_place d part.length) x.0) stands x.1;
            place_is = omega arith;
            piece = sym (take_all (length x.0) x.0 (omega arith));
          };
        };
        differs = x.3;
      }),
    )

    other_block : (why : Why) → IsOtherBlock d part stripe root calls turned k why → BlockLetter set the_wants log since k why
    other_block why x = subst (BlockLetter set the_wants log since k) (sym x.4) (
      in_use,
      inr (inl (record {
        table = x.2.table;
        showed_table = record {
          size = x.2.is_table.size;
          showed = showed calls log k (shard_name part.id) (table_place d part.length) x.2.table logged x.2.is_table.showed;
        };
        rooted = x.2.is_table.digest;
        block = x.1;
        showed = record {
          size = x.2.size;
          showed = showed turned since k (shard_name part.id) (block_place d stripe) x.1 logged_since x.2.showed;
        };
        differs = λ same. x.3 (x.2.stored ∙ same);
      })),
    )

    tells_none : (why : Why) → TellsNone d part stripe root turned k why → BlockLetter set the_wants log since k why
    tells_none why x = elim x.2 [
      | inl table ↦ no_table why x.0 x.1 table
      | inr block ↦ no_piece why _ _ x.0 x.1 block (inr (refl, refl))
    ]

  no_block : (why : Why) → NoBlockOf d part stripe root set.out calls turned k why → BlockLetter set the_wants log since k why
  no_block why (inl out) = subst (BlockLetter set the_wants log since k) (sym out.1) out.0
  no_block why (inr used) = elim used.1 [
    | inl none ↦ tells_none used.0 why none
    | inr other ↦ other_block used.0 why other
  ]

  -- a block that verified
  good_block : (block : List ℕ) → GaveBlockIn d part stripe root calls turned k block → IsGoodBlock the_wants log since k
  good_block block x = record {
    table = x.is_block.table;
    showed_table = record {
      size = x.is_block.is_table.size;
      showed = showed calls log k (shard_name part.id) (table_place d part.length) x.is_block.table logged x.is_block.is_table.showed;
    };
    rooted = x.is_block.is_table.digest;
    block = block;
    showed = record { size = x.is_block.size; showed = showed turned since k (shard_name part.id) (block_place d stripe) block logged_since x.is_block.showed };
    same = sym x.is_block.stored ∙ x.same;
  }

  pub letter_so : (why : Why) → ReaderLetter d part stripe root set.out calls turned k why → BlockLetter set the_wants log since k why
  letter_so why (inl good) = subst (BlockLetter set the_wants log since k) (sym good.0) (good.1, good_block good.2.0 good.2.1)
  letter_so why (inr none) = no_block why none

-- the part of a log since its reader turned to a window
since_turned : (told : Told) (log : Log) (drive : ℕ) (name file : List ℕ) → (l : IsLogged told log) → Stands told.before drive (Showed name 0 file)
    → IsSinceTurned log l.since drive name file
since_turned told log drive name file l stands = record {
  before = l.before;
  parts = l.parts;
  showed = saw_so told.before l.before l.logged drive (Showed name 0 file) stands;
  recent = omega (arith, ap (length {A = ℕ}) l.silent);
}

-- of the stripe that has the next byte too few drives gave a block
pub few_blocks : (set : SetPlan) (id : VersionId) (print : List ℕ) (reach next : ℕ) (whys : List Why) (told : Told) (log : Log)
    → AreLogged (all_calls told) log → IsLogged told log → FewBlocksIn set print id reach next whys told.before told.since
    → FewBlocks set (wanted set id print reach) next whys log
few_blocks set id print reach next whys told log all_logged logged x = record {
  manifest = x.manifest;
  serves = serves set id print reach x.manifest x.found.canonical x.found.serves;
  drive = x.found.drive;
  number = x.place;
  part = x.part;
  stripe = x.stripe;
  next_in = record { is = x.next_in.is; begun = x.next_in.begun; ends = x.next_in.ends; within = x.next_in.within };
  needed = x.needed;
  since = logged.since;
  is_since = since_turned told log x.found.drive (manifest_name id) (file_of x.manifest) logged x.found.showed;
  few = record { counted = x.few.counted; few = x.few.few };
  each = λ k inside. letter_so set (data_drives set.drives set.parity) x.part x.stripe (slice_index_or x.part.roots k []) (all_calls told) told.since log logged.since
      all_logged logged.logged_since k _ (x.few.each k inside);
}
