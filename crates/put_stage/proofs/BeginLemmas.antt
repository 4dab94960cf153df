-- How a stage begins: nothing is taken, and nothing is done.
use Rattle.std.proofs.Common.{◌≡◌, ◌∙◌, ℕ, ◌*◌, ◌^◌, ◌<◌, true, false, List, [], length, map, slice_index_or, replicate, Option, Some, None, ap, refl, subst, sym, inl, inr, arith}
use Rattle.std.specs.Prelude.{◌⊎◌, Vec, bit_and}
use Rattle.std.specs.Int.{IsBitSet}
use Rattle.std.proofs.lemmas.Bool.{cases_eq}
use Rattle.std.proofs.lemmas.List.{get_or-map, get_or-replicate, length-map, length-replicate, same_lists}
use Rattle.md5.specs.Md5.{Holds}
use Rattle.call_types.specs.declared.why.Why.{Why}
use Rattle.call_types.specs.declared.why.Why.TheVariants.{Good}
use Rattle.drive_base.specs.Files.{LooseFile}
use Rattle.drive_base.specs.Plan.{data_drives}
use Rattle.drive_base.specs.declared.plan.SetPlan.{SetPlan}
use Rattle.manifest_file.specs.declared.manifest.Manifest.{Manifest}
use Rattle.stamp_id.specs.declared.version.VersionId.{VersionId}
use Rattle.shard_file.specs.Shards.{table_of}
use Rattle.body_print.specs.Shards.{AreShards}
use Rattle.put_stage.specs.Loads.{BeginsBody, BeginsManifest, HasFirstLetters, IsFirstLoad}
use Rattle.put_stage.specs.CallsSoFar.{CalledBefore}
use Rattle.put_stage.specs.Cells.{DataCells}
use Rattle.put_stage.specs.StripeBlocks.{all_bytes, block_at}
use Rattle.put_stage.specs.Dues.{is_early}
use Rattle.put_stage.specs.StagedBodies.{IsOfManifest}
use Rattle.put_stage.specs.TakenBodies.{HasTaken, IsMadeOf}
use Rattle.put_stage.specs.Work.{AtWork, Blocks, HasBy, HasNoneLoose, IsBefore, IsOpen, due_at, writing}
use Rattle.put_stage.specs.declared.dues.Due.{Due}
use Rattle.put_stage.specs.declared.dues.Due.TheVariants.{Table, Manifest as DueManifest, Nothing}
use Rattle.put_stage.specs.declared.stage.Load.{Load}
use Rattle.put_stage.specs.declared.stage.Stage.{Stage}

-- so many tables
pub count_of_tables : {Z : Type 0} (tables : List (Vec ℕ Z)) (n : ℕ) → all_bytes tables ≡ replicate n [] → length tables ≡ n
count_of_tables {Z} tables n are =
    sym (length-map tables (λ (file : Vec ℕ Z). file.items)) ∙ ap (length {A = List ℕ}) are ∙ length-replicate n []

-- a stripe of no bytes
pub no_blocks : (blocks : List ℕ) (size n : ℕ) → blocks ≡ [] → size ≡ 0 → length blocks ≡ size * n
no_blocks blocks size n none empty =
    let times : size * n ≡ 0 * n = ap (λ (m : ℕ). m * n) empty in
    let long : length blocks ≡ 0 = ap (length {A = ℕ}) none in
    omega (arith, times, long)

-- the tables of shards without a block
tables_of_none : (n : ℕ) → replicate n [] ≡ map table_of (replicate n [])
tables_of_none n =
    let none : List (List ℕ) = replicate n [] in
    let shards : List (List (List ℕ)) = replicate n [] in
    let long : length none ≡ n = length-replicate n [] in
    let count : length shards ≡ n = length-replicate n [] in
    let mapped : length (map table_of shards) ≡ length shards = length-map shards table_of in
    same_lists none (map table_of shards) (omega (arith, long, count, mapped))
    (λ k x below.
    let low : k < n = omega (arith, long, below) in
    get_or-replicate n k [] x low
    ∙ ap table_of (sym (get_or-replicate n k [] [] low))
    ∙ sym (get_or-map table_of shards k [] x (omega (arith, count, low))))

-- the shards of a body of no bytes
no_shards : (n d : ℕ) → AreShards n d [] (replicate n [])
no_shards n d = record {
  count = length-replicate n [];
  blocks = λ k x below.
      let long : length (replicate {A = List (List ℕ)} n []) ≡ n = length-replicate n [] in
      let low : k < n = omega (arith, long, below) in
      ap (length {A = List ℕ}) (get_or-replicate n k [] x low);
  stripes = λ i below. absurd (omega (arith, below));
}

-- nothing is taken
pub nothing_taken : (load : Load) → load.alone ≡ false → load.left ≡ load.long → all_bytes load.tables.items ≡ replicate load.set.drives []
    → (0 < load.left → Holds load.hasher [])
    → (load.left ≡ 0 → AreShards load.set.drives (data_drives load.set.drives load.set.parity) [] (replicate load.set.drives [])
    → all_bytes load.tables.items ≡ map table_of (replicate load.set.drives []) → IsMadeOf load [] (replicate load.set.drives []) load.made)
    → HasTaken load [] (replicate load.set.drives [])
nothing_taken load of_body left tables hashed made =
    let n = load.set.drives in
    let are = no_shards n (data_drives n load.set.parity) in
    let tables_are : all_bytes load.tables.items ≡ map table_of (replicate n []) = tables ∙ tables_of_none n in
    record {
      of_body = of_body;
      long = omega (arith, left);
      whole = λ more. (0, refl);
      are = are;
      tables = tables_are;
      hashed = hashed;
      made = λ none. made none are tables_are;
    }

-- a bit is set or not
set_or_not : (mask k : ℕ) → IsBitSet mask k ⊎ (IsBitSet mask k → ⊥)
set_or_not mask k = elim (cases_eq (bit_and mask (2 ^ k)) 0) [ inl none ↦ inr (λ set. set none) | inr some ↦ inl some ]

-- a drive on which nothing is done, where this is the first call on all
module _ (stage : Stage) (due : Due) (blocks : Blocks) (k : ℕ) (first : DataCells) where
  begins_at : HasFirstLetters stage → stage.dues ≡ replicate 16 due → k < stage.load.set.drives → (IsOpen stage.load → is_early due ≡ true)
      → ((next manifest : List ℕ) → IsBefore due next manifest blocks first first) → AtWork stage blocks k first first
  begins_at letters dues low early before =
      let next = block_at k stage.load.window in
      let manifest = stage.load.made.manifest.items in
      let place : k < 16 = omega (arith, low, stage.load.set.few_drives) in
      let is_due : due_at stage k ≡ due = ap (λ (all : List Due). slice_index_or all k Nothing) dues ∙ get_or-replicate 16 k due Nothing place in
      record {
        early = λ unsettled. ap is_early is_due ∙ early unsettled;
        has = elim (set_or_not stage.load.set.out k) [
          | inl out ↦
              subst (λ (why : Why). HasBy why (due_at stage k) next manifest blocks first first) (sym (letters.out k low out)) refl
          | inr not ↦
              subst (λ (why : Why). HasBy why (due_at stage k) next manifest blocks first first) (sym (letters.in_use k low not))
              (subst (λ (d : Due). HasBy Good d next manifest blocks first first) (sym is_due) (before next manifest))
        ];
      }

-- cells without a loose manifest, and without a loose shard file
no_manifest : (first : DataCells) → HasNoneLoose first → first ≡ writing first None first.loose_shard
no_manifest first none = ap (λ (file : Option LooseFile). writing first file first.loose_shard) none.manifest

no_file : (first : DataCells) → HasNoneLoose first → first ≡ writing first None None
no_file first none = no_manifest first none ∙ ap (writing first None) none.shard

-- a stage of a body begins
pub begins_body : (set : SetPlan) (id : VersionId) (name : List ℕ) (size : ℕ) (stated : Option (List ℕ)) (load : Load) (stage : Stage)
    → IsFirstLoad set id name size stated load → stage.load ≡ load → stage.dues ≡ replicate 16 Table → HasFirstLetters stage → BeginsBody set id name size stated stage
begins_body set id name size stated load stage is same dues letters = record {
  load = subst (IsFirstLoad set id name size stated) (sym same) is;
  letters = letters;
  fresh = λ k first low none. begins_at stage Table (Some []) k first letters dues low (λ unsettled. refl) (λ next manifest. (None, no_file first none, refl));
  uncalled = λ k low.
      let place : k < 16 = omega (arith, low, stage.load.set.few_drives) in
      let is_due : due_at stage k ≡ Table = ap (λ (all : List Due). slice_index_or all k Nothing) dues ∙ get_or-replicate 16 k Table Nothing place in
      record {
        early = λ unsettled. ap is_early is_due;
        before = λ serves.
            subst (λ (d : Due). CalledBefore d stage.load.names.id (block_at k stage.load.window) stage.load.made.manifest.items [] []) (sym is_due)
            (record { pieces = []; joined = refl; are = refl });
      };
}

-- a manifest alone is no open load
settled : (load : Load) → load.left ≡ 0 → load.stated ≡ None → IsOpen load → ⊥
settled load left stated (inl some) = omega (arith, left, some)
settled load left stated (inr other) = let given = other.1.1 in absurd cc

-- a stage of a manifest alone begins
pub begins_manifest : (set : SetPlan) (id : VersionId) (manifest : Manifest) (etag : List ℕ) (load : Load) (stage : Stage)
    → load.set ≡ set → IsOfManifest load id manifest etag → stage.load ≡ load → stage.dues ≡ replicate 16 DueManifest → HasFirstLetters stage
    → BeginsManifest set id manifest etag stage
begins_manifest set id manifest etag load stage set_is is same dues letters =
    let here : IsOfManifest stage.load id manifest etag = subst (λ (l : Load). IsOfManifest l id manifest etag) (sym same) is in
    record {
      set_is = ap (λ (l : Load). l.set) same ∙ set_is;
      load = here;
      letters = letters;
      fresh = λ k first low none.
          begins_at stage DueManifest None k first letters dues low (λ unsettled. absurd (settled stage.load here.none_left here.none_stated unsettled))
          (λ next bytes. no_manifest first none);
    }
