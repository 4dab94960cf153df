-- The drive call of a step is the one that is due.
use Rattle.std.proofs.Common.{◌≡◌, ◌∙◌, ℕ, List, [], slice_index_or, ap, sym, subst}
use Rattle.std.specs.Prelude.{Result}
use Rattle.call_types.specs.declared.why.Why.{Why}
use Rattle.body_print.specs.Names.{shard_name, manifest_name, loose_shard_name, loose_manifest_name}
use Rattle.drive_base.specs.declared.fault.DriveFault.{DriveFault}
use Rattle.drive_base.specs.DriveModel.{DriveModel}
use Rattle.drive_base.specs.Trail.{DriveCall, Append, Rename, Sync}
use Rattle.drive_base.specs.View.{DriveView}
use Rattle.file_access.specs.Trails.{AnswerOf}
use Rattle.put_stage.specs.Calls.{CallsDue, IsDueCall}
use Rattle.put_stage.specs.StripeBlocks.{all_bytes, block_at}
use Rattle.put_stage.specs.declared.dues.Due.{Due}
use Rattle.put_stage.specs.declared.dues.Due.TheVariants.{Block, Table, SyncShard, Manifest, SyncManifest, PlaceManifest, PlaceShard}
use Rattle.put_stage.specs.declared.stage.Load.{Load}

-- a drive answered a call that is made of its answer, and the step has that answer
abbrev pub Answered : (Result (Unit {0}) DriveFault → DriveCall) → Result (Unit {0}) Why → DriveView → DriveView → Type 0
Answered call result old new = (answer : Result (Unit {0}) DriveFault) × AnswerOf result answer × DriveModel (call answer) old new

module _ (load : Load) (k : ℕ) (due : Due) (result : Result (Unit {0}) Why) (old new : DriveView) where
  -- a call was made that is due
  is_called : (to : Due) (call : Result (Unit {0}) DriveFault → DriveCall) → due ≡ to
      → ((answer : Result (Unit {0}) DriveFault) → IsDueCall load k to answer (call answer)) → Answered call result old new → CallsDue load k due result old new
  is_called to call is named (answer, answered, model) = record {
    call = call answer;
    answer = answer;
    is_due = subst (λ (d : Due). IsDueCall load k d answer (call answer)) (sym is) (named answer);
    answered = answered;
    model = model;
  }

  pub called_block : (loose bytes : List ℕ) → due ≡ Block → loose ≡ loose_shard_name load.names.id → bytes ≡ block_at k load.window
      → Answered (Append loose bytes) result old new → CallsDue load k due result old new
  called_block loose bytes is named same = is_called Block (Append loose bytes) is (λ answer.
      ap (λ (n : List ℕ). Append n bytes answer) named ∙ ap (λ (b : List ℕ). Append (loose_shard_name load.names.id) b answer) same)

  pub called_table : (loose bytes : List ℕ) → due ≡ Table → loose ≡ loose_shard_name load.names.id
      → bytes ≡ slice_index_or (all_bytes load.tables.items) k [] → Answered (Append loose bytes) result old new → CallsDue load k due result old new
  called_table loose bytes is named same = is_called Table (Append loose bytes) is (λ answer.
      ap (λ (n : List ℕ). Append n bytes answer) named ∙ ap (λ (b : List ℕ). Append (loose_shard_name load.names.id) b answer) same)

  pub called_sync_shard : (loose : List ℕ) → due ≡ SyncShard → loose ≡ loose_shard_name load.names.id
      → Answered (Sync loose) result old new → CallsDue load k due result old new
  called_sync_shard loose is named = is_called SyncShard (Sync loose) is (λ answer. ap (λ (n : List ℕ). Sync n answer) named)

  pub called_manifest : (loose bytes : List ℕ) → due ≡ Manifest → loose ≡ loose_manifest_name load.names.id → bytes ≡ load.made.manifest.items
      → Answered (Append loose bytes) result old new → CallsDue load k due result old new
  called_manifest loose bytes is named same = is_called Manifest (Append loose bytes) is (λ answer.
      ap (λ (n : List ℕ). Append n bytes answer) named ∙ ap (λ (b : List ℕ). Append (loose_manifest_name load.names.id) b answer) same)

  pub called_sync_manifest : (loose : List ℕ) → due ≡ SyncManifest → loose ≡ loose_manifest_name load.names.id
      → Answered (Sync loose) result old new → CallsDue load k due result old new
  called_sync_manifest loose is named = is_called SyncManifest (Sync loose) is (λ answer. ap (λ (n : List ℕ). Sync n answer) named)

  pub called_place_manifest : (loose name : List ℕ) → due ≡ PlaceManifest → loose ≡ loose_manifest_name load.names.id
      → name ≡ manifest_name load.names.id → Answered (Rename loose name) result old new → CallsDue load k due result old new
  called_place_manifest loose name is named same = is_called PlaceManifest (Rename loose name) is (λ answer.
      ap (λ (n : List ℕ). Rename n name answer) named ∙ ap (λ (n : List ℕ). Rename (loose_manifest_name load.names.id) n answer) same)

  pub called_place_shard : (loose name : List ℕ) → due ≡ PlaceShard → loose ≡ loose_shard_name load.names.id
      → name ≡ shard_name load.names.id → Answered (Rename loose name) result old new → CallsDue load k due result old new
  called_place_shard loose name is named same = is_called PlaceShard (Rename loose name) is (λ answer.
      ap (λ (n : List ℕ). Rename n name answer) named ∙ ap (λ (n : List ℕ). Rename (loose_shard_name load.names.id) n answer) same)
