-- The manifest that a stage of a put places.
use Rattle.std.proofs.Common.{◌≡◌, ◌⊎◌, ℕ, zero, suc, List, Some, None, inl, inr, refl, ap, arith}
use Rattle.call_types.specs.declared.why.FileKind.TheVariants.{Format, Register, Manifest as ManifestKind, Shard as ShardKind}
use Rattle.call_types.specs.declared.why.Why.{Why}
use Rattle.call_types.specs.declared.why.Why.TheVariants.{Good, Failed, Damaged, Behind, Lacks}
use Rattle.put_stage.specs.Cells.{DataCells}
use Rattle.put_stage.specs.StripeBlocks.{block_at}
use Rattle.put_stage.specs.TakenBodies.{HasTaken, manifest_in}
use Rattle.put_stage.specs.Work.{AtWork, HasBy, HasFailedAt, IsBefore, due_at, why_at}
use Rattle.put_stage.specs.declared.dues.Due.{Due}
use Rattle.put_stage.specs.declared.dues.Due.TheVariants.{Block, Table, SyncShard, Manifest, SyncManifest, PlaceManifest, PlaceShard, Nothing}
use Rattle.put_stage.specs.declared.stage.Stage.{Stage}
use Rattle.put_stage.proofs.FinishLemmas.{whole_manifest}
use Rattle.put_stage.proofs.LawProofs.{open_stages_place_nothing}
use Rattle.slot_core.specs.declared.holding.Flight.{Flight}
use Rattle.object_ops.specs.Put.{PutAsk}
use Rattle.object_ops.specs.PutStands.{IsStageOf, no_cells}
use Rattle.object_ops.proofs.PutWrites.{IsMade}

-- ---- the manifest on a drive where nothing was under the id before: none, or the one that was made

abbrev pub NoneOrThis : List ℕ → DataCells → Type 0
NoneOrThis manifest cells = (cells.manifest ≡ None) ⊎ (cells.manifest ≡ Some manifest)

good_manifest : (due : Due) (next manifest : List ℕ) (blocks : List (List ℕ)) (cells : DataCells) → IsBefore due next manifest (Some blocks) no_cells cells
    → NoneOrThis manifest cells
good_manifest Block next manifest blocks cells (file, is, joined) = inl (ap (λ (c : DataCells). c.manifest) is)
good_manifest Table next manifest blocks cells (file, is, joined) = inl (ap (λ (c : DataCells). c.manifest) is)
good_manifest SyncShard next manifest blocks cells is = inl (ap (λ (c : DataCells). c.manifest) is)
good_manifest Manifest next manifest blocks cells is = inl (ap (λ (c : DataCells). c.manifest) is)
good_manifest SyncManifest next manifest blocks cells is = inl (ap (λ (c : DataCells). c.manifest) is)
good_manifest PlaceManifest next manifest blocks cells is = inl (ap (λ (c : DataCells). c.manifest) is)
good_manifest PlaceShard next manifest blocks cells is = inr (ap (λ (c : DataCells). c.manifest) is)
good_manifest Nothing next manifest blocks cells is = inr (ap (λ (c : DataCells). c.manifest) is)

failed_manifest : (due : Due) (manifest : List ℕ) (blocks : List (List ℕ)) (cells : DataCells) → HasFailedAt due manifest (Some blocks) no_cells cells
    → NoneOrThis manifest cells
failed_manifest Block manifest blocks cells is = inl is.manifest_is
failed_manifest Table manifest blocks cells is = inl is.manifest_is
failed_manifest SyncShard manifest blocks cells is = inl is.manifest_is
failed_manifest Manifest manifest blocks cells is = inl is.manifest_is
failed_manifest SyncManifest manifest blocks cells is = inl is.manifest_is
failed_manifest PlaceManifest manifest blocks cells (inl is) = inl is.manifest_is
failed_manifest PlaceManifest manifest blocks cells (inr is) = inr is.manifest_is
failed_manifest PlaceShard manifest blocks cells (inl is) = inr is.manifest_is
failed_manifest PlaceShard manifest blocks cells (inr is) = inr is.manifest_is
failed_manifest Nothing manifest blocks cells is = absurd is

any_manifest : (why : Why) (due : Due) (next manifest : List ℕ) (blocks : List (List ℕ)) (cells : DataCells) → HasBy why due next manifest (Some blocks) no_cells cells
    → NoneOrThis manifest cells
any_manifest Good due next manifest blocks cells has = good_manifest due next manifest blocks cells has
any_manifest (Failed b a) due next manifest blocks cells has = failed_manifest due manifest blocks cells has
any_manifest (Damaged damage) due next manifest blocks cells has = absurd has
any_manifest (Behind ballot) due next manifest blocks cells has = absurd has
any_manifest (Lacks Format) due next manifest blocks cells has = inl (ap (λ (c : DataCells). c.manifest) has)
any_manifest (Lacks Register) due next manifest blocks cells has = absurd has
any_manifest (Lacks ManifestKind) due next manifest blocks cells has = absurd has
any_manifest (Lacks ShardKind) due next manifest blocks cells has = absurd has

-- while bytes are left there is none
pub work_manifest : (stage : Stage) (blocks : List (List ℕ)) (k : ℕ) (cells : DataCells) → AtWork stage (Some blocks) k no_cells cells
    → (cells.manifest ≡ None) ⊎ ((stage.load.left ≡ 0) × (cells.manifest ≡ Some stage.load.made.manifest.items))
work_manifest stage blocks k cells at = by stage.load.left refl
  where
    by : (left : ℕ) → stage.load.left ≡ left → (cells.manifest ≡ None) ⊎ ((stage.load.left ≡ 0) × (cells.manifest ≡ Some stage.load.made.manifest.items))
    by zero is = elim (any_manifest (why_at stage k) (due_at stage k) (block_at k stage.load.window) stage.load.made.manifest.items blocks cells at.has) [
      | inl none ↦ inl none
      | inr this ↦ inr (is, this)
    ]
    by (suc more) is = inl (open_stages_place_nothing stage (Some blocks) k no_cells cells (inl (omega (arith, is))) at).manifest_is

-- the one that is made is the put's
pub is_made : (ask : PutAsk) (flight : Flight) (stage : Stage) (body : List ℕ) (shards : List (List (List ℕ))) → IsStageOf ask flight stage
    → HasTaken stage.load body shards → stage.load.left ≡ 0 → IsMade ask.target flight.id (manifest_in stage.load body shards)
is_made ask flight stage body shards of taken whole = record {
  canonical = whole_manifest stage.load body shards taken whole;
  name_is = of.name_is;
  single = (_, refl, of.id_is);
}
