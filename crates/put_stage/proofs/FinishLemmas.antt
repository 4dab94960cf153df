-- What a stage that is over answers, and what the drives hold that took all.
use Rattle.std.proofs.Common.{◌≡◌, ◌∙◌, ℕ, ◌<◌, ◌≤◌, true, List, [], ◌∷◌, Some, None, length, map, slice_index_or, ap, refl, subst, sym, inl, inr, arith, append-nil, lit<, lit≤}
use Rattle.std.specs.Prelude.{Result, Ok, Err}
use Rattle.std.specs.Int.{IsBitSet}
use Rattle.std.specs.String.{string_bytes}
use Rattle.std.proofs.lemmas.List.{get_or-map, get_or_default, length-map}
use Rattle.call_types.specs.Good.{is_good}
use Rattle.call_types.specs.declared.why.FileKind.TheVariants.{Format}
use Rattle.call_types.specs.declared.why.Why.{Why}
use Rattle.call_types.specs.declared.why.Why.TheVariants.{Good, Lacks}
use Rattle.drive_base.specs.Files.{Files}
use Rattle.drive_base.specs.Plan.{data_drives}
use Rattle.manifest_file.specs.Canonical.{IsCanonical}
use Rattle.manifest_file.specs.Print.{Cut, print_text}
use Rattle.shard_file.specs.Shards.{root_of, table_of}
use Rattle.body_print.proofs.ShardLemmas.{shards_have_their_blocks}
use Rattle.body_print.specs.Prints.{HasPrint, IsCutOf}
use Rattle.put_stage.specs.Cells.{DataCells, data_of}
use Rattle.put_stage.specs.StripeBlocks.{block_at}
use Rattle.put_stage.specs.Dues.{is_nothing}
use Rattle.put_stage.specs.StagedBodies.{StagesBody, StagesManifestAlone}
use Rattle.put_stage.specs.HeldBodies.{HoldsBody}
use Rattle.put_stage.specs.Outcomes.{Acknowledges, Answers}
use Rattle.put_stage.specs.Steps.{HasDone, MayFinish}
use Rattle.put_stage.specs.TakenBodies.{HasTaken, manifest_in}
use Rattle.put_stage.specs.Work.{AtWork, Blocks, HasBy, all_placed, due_at, why_at}
use Rattle.put_stage.specs.declared.dues.Due.{Due}
use Rattle.put_stage.specs.declared.dues.Due.TheVariants.{Block, Table, SyncShard, Manifest as DueManifest, SyncManifest, PlaceManifest, PlaceShard, Nothing}
use Rattle.put_stage.specs.declared.stage.Load.{Load}
use Rattle.put_stage.specs.declared.stage.Stage.{Stage}
use Rattle.put_stage.specs.declared.answers.Staged.{Staged}
use Rattle.put_stage.specs.declared.answers.StageFault.{StageFault}
use Rattle.put_stage.proofs.ManifestLemmas.{canonical_of_tables, roots_of_tables}

-- no other call is none
nothing_left : (due : Due) → is_nothing due ≡ true → due ≡ Nothing
nothing_left Block is = absurd cc
nothing_left Table is = absurd cc
nothing_left SyncShard is = absurd cc
nothing_left DueManifest is = absurd cc
nothing_left SyncManifest is = absurd cc
nothing_left PlaceManifest is = absurd cc
nothing_left PlaceShard is = absurd cc
nothing_left Nothing is = refl

-- the MD5 agrees, so each drive that serves did all
pub all_done : (stage : Stage) → MayFinish stage → ((given : List ℕ) → stage.load.stated ≡ Some given → given ≡ stage.load.made.etag) → HasDone stage
all_done stage may agrees = elim may.over [
  | inl other ↦ absurd (other.1.2 (agrees other.1.0 other.1.1))
  | inr done ↦ done
]

-- a drive that took all has all in place
took_all : (stage : Stage) (staged : Staged) (blocks : Blocks) (k : ℕ) (first cells : DataCells) (print : List ℕ) (size : ℕ) (tag : List ℕ)
    → Acknowledges stage.load.set stage.whys print size tag staged → HasDone stage → k < stage.load.set.drives → IsBitSet staged.took k
    → AtWork stage blocks k first cells → cells ≡ all_placed first stage.load.made.manifest.items blocks
took_all stage staged blocks k first cells print size tag told done low took at =
    let next = block_at k stage.load.window in
    let manifest = stage.load.made.manifest.items in
    let good : why_at stage k ≡ Good =
    get_or_default stage.whys k Good (Lacks Format) (omega (arith, stage.letters, low)) ∙ (told.took k low).0 took in
    let due : due_at stage k ≡ Nothing = nothing_left (due_at stage k) (done k low (ap is_good good)) in
    subst (λ (d : Due). HasBy Good d next manifest blocks first cells) due
    (subst (λ (why : Why). HasBy why (due_at stage k) next manifest blocks first cells) good at.has)

-- the print of a body that is one part
one_part : (load : Load) (body print : List ℕ) (shards : List (List (List ℕ))) → HasTaken load body shards → load.left ≡ 0
    → print ≡ load.made.print → HasPrint load.set.drives load.set.parity body print
one_part load body print shards taken whole is =
    let n = load.set.drives in
    let p = load.set.parity in
    let cut : Cut = (length body, map root_of shards) in
    let fits : length body ≤ 5368709120 = omega (arith, taken.long, load.few taken.of_body) in
    record {
      parts = body ∷ [];
      cut = record {
        some = lit< tt;
        few = lit≤ tt;
        fits = λ k part below.
            let same : 0 ≡ k = omega arith in
            subst (λ (i : ℕ). length (slice_index_or (body ∷ []) i part) ≤ 5368709120) same fits;
      };
      text = print_text n p (cut ∷ []);
      joins = sym (append-nil body);
      under = record {
        cuts = cut ∷ [];
        count = refl;
        each = λ i below.
            let same : 0 ≡ i = omega arith in
            subst (λ (k : ℕ). IsCutOf n p (slice_index_or (body ∷ []) k []) (slice_index_or (cut ∷ []) k (0, []))) same
            (refl, (shards, taken.are, refl));
        spells = refl;
      };
      hashed = is ∙ (taken.made whole).print;
    }

-- the manifest of a body that is taken whole
pub whole_manifest : (load : Load) (body : List ℕ) (shards : List (List (List ℕ))) → HasTaken load body shards → load.left ≡ 0
    → IsCanonical (manifest_in load body shards)
whole_manifest load body shards taken whole =
    let fits : length body ≤ 5368709120 = omega (arith, taken.long, load.few taken.of_body) in
    let counted : length (map table_of shards) ≡ load.set.drives = length-map shards table_of ∙ taken.are.count in
    canonical_of_tables load.set load.names.id (string_bytes load.name) (length body) (map table_of shards) (map root_of shards) (manifest_in load body shards) refl
    load.short_name fits (sym (roots_of_tables shards)) counted

-- a drive with all in place holds the body
holds_body : (stage : Stage) (body print : List ℕ) (shards : List (List (List ℕ))) (k : ℕ) (first : DataCells) (files : Files)
    → HasTaken stage.load body shards → stage.load.left ≡ 0 → print ≡ stage.load.made.print → k < stage.load.set.drives
    → data_of stage.load.names.id files ≡ all_placed first stage.load.made.manifest.items (Some (slice_index_or shards k []))
    → (held : HoldsBody stage.load.set stage.load.names.id print k files.kept) × (held.whole.manifest ≡ manifest_in stage.load body shards)
holds_body stage body print shards k first files taken whole is low all =
    let load = stage.load in
    let set = stage.load.set in
    let id = stage.load.names.id in
    let n = set.drives in
    let d = data_drives set.drives set.parity in
    let roots = map root_of shards in
    let made = taken.made whole in
    let inside : k < length shards = omega (arith, taken.are.count, low) in (
      record {
        whole = record {
          manifest = manifest_in load body shards;
          canonical = whole_manifest load body shards taken whole;
          is = ap (λ (cells : DataCells). cells.manifest) all ∙ ap (λ (bytes : List ℕ). Some bytes) made.manifest;
          printed = is ∙ made.print;
        };
        part = record { id = id; length = length body; roots = roots };
        alone = refl;
        own = refl;
        shard = record {
          within = low;
          blocks = slice_index_or shards k [];
          sized = shards_have_their_blocks n d body shards k taken.are low;
          is = ap (λ (cells : DataCells). cells.shard) all;
          root = get_or-map root_of shards k [] [] inside;
        };
      },
      refl,
    )

-- the answer of a stage of a body
pub finished_body : (stage : Stage) (result : Result Staged StageFault) → MayFinish stage
    → ((given : List ℕ) → stage.load.stated ≡ Some given → given ≡ stage.load.made.etag)
    → Answers stage.load.set stage.whys stage.load.made.print stage.load.long stage.load.made.etag result → StagesBody stage result
finished_body stage (Err fault) may agrees told = tt
finished_body stage (Ok staged) may agrees told = λ body shards taken.
    let made = taken.made may.whole in
    record {
      print = one_part stage.load body staged.print shards taken may.whole told.print;
      printed = told.print ∙ made.print;
      long = told.long ∙ omega (arith, taken.long, may.whole);
      etag = told.etag ∙ made.etag;
      agrees = λ given is. agrees given is ∙ made.etag;
      holds = λ k first files low took at.
          holds_body stage body staged.print shards k first files taken may.whole told.print low
          (took_all stage staged (Some (slice_index_or shards k [])) k first (data_of stage.load.names.id files) _ _ _ told (all_done stage may agrees) low took at);
    }

-- the answer of a stage of a manifest alone
pub finished_manifest : (stage : Stage) (result : Result Staged StageFault) → MayFinish stage
    → ((given : List ℕ) → stage.load.stated ≡ Some given → given ≡ stage.load.made.etag)
    → Answers stage.load.set stage.whys stage.load.made.print stage.load.long stage.load.made.etag result → StagesManifestAlone stage result
finished_manifest stage (Err fault) may agrees told = tt
finished_manifest stage (Ok staged) may agrees told = λ id manifest etag is. record {
  print = told.print ∙ is.print;
  long = told.long ∙ is.long;
  etag_is = told.etag ∙ is.etag_is;
  holds = λ k first files low took canon at.
      let all = took_all stage staged None k first (data_of id files) _ _ _ told (all_done stage may agrees) low took at in
      record {
        manifest = manifest;
        canonical = canon;
        is = ap (λ (cells : DataCells). cells.manifest) all ∙ ap (λ (bytes : List ℕ). Some bytes) is.file;
        printed = told.print ∙ is.print;
      };
}
