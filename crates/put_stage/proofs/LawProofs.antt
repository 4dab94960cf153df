-- The laws of a stage at work.
use Rattle.std.proofs.Common.{◌≡◌, ◌∙◌, ℕ, true, List, Some, None, Ok, Err, ap, refl, subst, sym, arith}
use Rattle.call_types.specs.declared.why.FileKind.TheVariants.{Format, Register, Manifest as ManifestKind, Shard as ShardKind}
use Rattle.call_types.specs.declared.why.Why.{Why}
use Rattle.call_types.specs.declared.why.Why.TheVariants.{Good, Failed, Damaged, Behind, Lacks}
use Rattle.put_stage.specs.Cells.{DataCells}
use Rattle.put_stage.specs.StripeBlocks.{block_at}
use Rattle.put_stage.specs.Dues.{is_early}
use Rattle.put_stage.specs.Laws.{OpenStagesPlaceNothing, SuccessIsAnswered, WorkOutlivesOthers}
use Rattle.put_stage.specs.Work.{AtWork, Blocks, HasBy, HasFailedAt, IsBefore, Keeps, due_at, why_at}
use Rattle.put_stage.specs.declared.dues.Due.{Due}
use Rattle.put_stage.specs.declared.dues.Due.TheVariants.{Block, Table, SyncShard, Manifest, SyncManifest, PlaceManifest, PlaceShard, Nothing}
use Rattle.put_stage.specs.declared.answers.StageFault.TheVariants.{WriteQuorum, BadDigest, BodyCut, ReadFault, NoMemory}
use Rattle.put_stage.proofs.CallLemmas.{keeps_writing}

-- a drive that did all calls before an early one
early_keeps : (due : Due) (next manifest : List ℕ) (blocks : Blocks) (first cells : DataCells) → is_early due ≡ true → IsBefore due next manifest blocks first cells
    → Keeps first.manifest first.shard cells
early_keeps Block next manifest None first cells early has = absurd has
early_keeps Block next manifest (Some blocks) first cells early (file, is, joined) = keeps_writing first cells None file is
early_keeps Table next manifest None first cells early has = absurd has
early_keeps Table next manifest (Some blocks) first cells early (file, is, joined) = keeps_writing first cells None file is
early_keeps SyncShard next manifest blocks first cells early has = absurd cc
early_keeps Manifest next manifest blocks first cells early has = absurd cc
early_keeps SyncManifest next manifest blocks first cells early has = absurd cc
early_keeps PlaceManifest next manifest blocks first cells early has = absurd cc
early_keeps PlaceShard next manifest blocks first cells early has = absurd cc
early_keeps Nothing next manifest blocks first cells early has = absurd cc

-- a drive on which an early call failed
failed_keeps : (due : Due) (manifest : List ℕ) (blocks : Blocks) (first cells : DataCells) → is_early due ≡ true → HasFailedAt due manifest blocks first cells
    → Keeps first.manifest first.shard cells
failed_keeps Block manifest blocks first cells early has = has
failed_keeps Table manifest blocks first cells early has = has
failed_keeps SyncShard manifest blocks first cells early has = absurd cc
failed_keeps Manifest manifest blocks first cells early has = absurd cc
failed_keeps SyncManifest manifest blocks first cells early has = absurd cc
failed_keeps PlaceManifest manifest blocks first cells early has = absurd cc
failed_keeps PlaceShard manifest blocks first cells early has = absurd cc
failed_keeps Nothing manifest blocks first cells early has = absurd cc

-- a drive of any letter
any_keeps : (why : Why) (due : Due) (next manifest : List ℕ) (blocks : Blocks) (first cells : DataCells) → is_early due ≡ true
    → HasBy why due next manifest blocks first cells → Keeps first.manifest first.shard cells
any_keeps Good due next manifest blocks first cells early has = early_keeps due next manifest blocks first cells early has
any_keeps (Failed b a) due next manifest blocks first cells early has = failed_keeps due manifest blocks first cells early has
any_keeps (Damaged damage) due next manifest blocks first cells early has = absurd has
any_keeps (Behind ballot) due next manifest blocks first cells early has = absurd has
any_keeps (Lacks Format) due next manifest blocks first cells early has = record {
  manifest_is = ap (λ (c : DataCells). c.manifest) has;
  shard_is = ap (λ (c : DataCells). c.shard) has;
}
any_keeps (Lacks Register) due next manifest blocks first cells early has = absurd has
any_keeps (Lacks ManifestKind) due next manifest blocks first cells early has = absurd has
any_keeps (Lacks ShardKind) due next manifest blocks first cells early has = absurd has

pub open_stages_place_nothing : OpenStagesPlaceNothing
open_stages_place_nothing stage blocks k first cells unsettled at =
    any_keeps (why_at stage k) (due_at stage k) (block_at k stage.load.window) stage.load.made.manifest.items blocks first cells (at.early unsettled) at.has

pub work_outlives_others : WorkOutlivesOthers
work_outlives_others stage blocks k first old new same at = subst (AtWork stage blocks k first) (sym same) at

pub success_is_answered : SuccessIsAnswered
success_is_answered stage (Ok staged) may told = (
  (λ succeeds. refl),
  (λ ok. record {
    whole = may.whole;
    agrees = λ other. other.1.2 (told.1 other.1.0 other.1.1);
    enough = told.0.enough;
  }),
)
success_is_answered stage (Err (WriteQuorum whys)) may told = (
  (λ succeeds. let enough = succeeds.enough in let few = told.1 in absurd (omega (arith, enough, few))),
  (λ ok. absurd cc),
)
success_is_answered stage (Err (BadDigest given computed)) may told = (
  (λ succeeds. absurd (succeeds.agrees (may.whole, (given, told.0, λ same. told.2 (same ∙ sym told.1))))),
  (λ ok. absurd cc),
)
success_is_answered stage (Err BodyCut) may told = absurd told
success_is_answered stage (Err ReadFault) may told = absurd told
success_is_answered stage (Err NoMemory) may told = absurd told
