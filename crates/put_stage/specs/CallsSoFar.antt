-- The calls that a stage made of a drive so far, where that drive did them all, by the call that is due next.
use Rattle.std.specs.Prelude.{◌≡◌, ◌≢◌, ◌<◌, ℕ, true, List, [], ◌∷◌, ◌++◌, length, slice_index_or, Some, Result, Ok}
use Rattle.std.specs.List.{concat}
use Rattle.stamp_id.specs.declared.version.VersionId.{VersionId}
use Rattle.call_types.specs.declared.why.Why.{Why}
use Rattle.drive_base.specs.declared.fault.DriveFault.{DriveFault}
use Rattle.drive_base.specs.Trail.{Append, DriveCall, Rename, Sync}
use Rattle.file_access.specs.Trails.{AnswerOf}
use Rattle.body_print.specs.Names.{loose_manifest_name, loose_shard_name, manifest_name}
use Rattle.body_print.specs.Staging.{appends, shard_calls, staging_calls}
use Rattle.shard_file.specs.Shards.{shard_bytes}
use Rattle.put_stage.specs.Calls.{IsDueCall}
use Rattle.put_stage.specs.StripeBlocks.{block_at}
use Rattle.put_stage.specs.Dues.{is_early}
use Rattle.put_stage.specs.Steps.{IsAfter, IsDue, Serves}
use Rattle.put_stage.specs.Work.{IsOfDrive, IsOpen, due_at}
use Rattle.put_stage.specs.declared.dues.Due.{Due}
use Rattle.put_stage.specs.declared.dues.Due.TheVariants.{Block, Table, SyncShard, Manifest, SyncManifest, PlaceManifest, PlaceShard, Nothing}
use Rattle.put_stage.specs.declared.stage.Stage.{Stage}

-- the shard of an id was written in some pieces, which join to these bytes
pub record WroteShard (id : VersionId) (shard : List ℕ) (more calls : List DriveCall) : Type 0 where
  pub pieces : List (List ℕ)
  pub joined : concat pieces ≡ shard
  pub are : calls ≡ shard_calls id pieces more

-- so far only blocks of it were, or these and its table, and what comes next joins on to them
pub record AppendsShard (id : VersionId) (next shard : List ℕ) (calls : List DriveCall) : Type 0 where
  pub pieces : List (List ℕ)
  pub joined : concat pieces ++ next ≡ shard
  pub are : calls ≡ appends (loose_shard_name id) pieces

-- the calls before the one that is due: `next` is appended where a block is due, and `blocks` are those of the shard so far, with `next`
abbrev pub CalledBefore : Due → VersionId → List ℕ → List ℕ → List (List ℕ) → List DriveCall → Type 0
CalledBefore Block id next manifest blocks calls = AppendsShard id next (concat blocks) calls
CalledBefore Table id next manifest blocks calls = AppendsShard id [] (concat blocks) calls
CalledBefore SyncShard id next manifest blocks calls = AppendsShard id [] (shard_bytes blocks) calls
CalledBefore Manifest id next manifest blocks calls = WroteShard id (shard_bytes blocks) [] calls
CalledBefore SyncManifest id next manifest blocks calls =
    WroteShard id (shard_bytes blocks) (Append (loose_manifest_name id) manifest (Ok tt) ∷ []) calls
CalledBefore PlaceManifest id next manifest blocks calls = WroteShard id (shard_bytes blocks)
    (Append (loose_manifest_name id) manifest (Ok tt) ∷ Sync (loose_manifest_name id) (Ok tt) ∷ []) calls
CalledBefore PlaceShard id next manifest blocks calls = WroteShard id (shard_bytes blocks) (Append (loose_manifest_name id) manifest (Ok tt)
    ∷ Sync (loose_manifest_name id) (Ok tt) ∷ Rename (loose_manifest_name id) (manifest_name id) (Ok tt) ∷ []) calls
CalledBefore Nothing id next manifest blocks calls = (pieces : List (List ℕ)) × (concat pieces ≡ shard_bytes blocks)
    × (calls ≡ staging_calls id pieces manifest)

-- so are those of drive k, where its letter is that it did all so far; `blocks` are those of its shard
pub record CalledSo (stage : Stage) (k : ℕ) (blocks : List (List ℕ)) (calls : List DriveCall) : Type 0 where
  pub early : IsOpen stage.load → is_early (due_at stage k) ≡ true
  pub before : Serves stage k
      → CalledBefore (due_at stage k) stage.load.names.id (block_at k stage.load.window) stage.load.made.manifest.items blocks calls

-- a call that was due on drive k, and what became of the stage, go on so
abbrev pub StepCallsSo : Type 0
StepCallsSo = (old new : Stage) (k : ℕ) (answer : Result (Unit {0}) Why) (call : DriveCall) (given : Result (Unit {0}) DriveFault) (blocks : List (List ℕ))
    (calls : List DriveCall) → new.load ≡ old.load → IsDue old k → k < length old.dues → IsAfter answer k old new → IsDueCall old.load k (due_at old k) given call
    → AnswerOf answer given → IsOfDrive old.load k (Some blocks) → CalledSo old k blocks calls → CalledSo new k blocks (calls ++ call ∷ [])

-- and another drive's as before
abbrev pub StepCallsElsewhere : Type 0
StepCallsElsewhere = (old new : Stage) (k other : ℕ) (answer : Result (Unit {0}) Why) (blocks : List (List ℕ)) (calls : List DriveCall) → new.load ≡ old.load
    → IsAfter answer k old new → other ≢ k → CalledSo old other blocks calls → CalledSo new other blocks calls

-- the calls so far go on to be those of a longer body, whose next blocks are due
abbrev pub CallsGoOn : Stage → Stage → List (List (List ℕ)) → List (List (List ℕ)) → Type 0
CallsGoOn old new before after = (k : ℕ) (calls : List DriveCall) → k < old.load.set.drives → CalledSo old k (slice_index_or before k []) calls
    → CalledSo new k (slice_index_or after k []) calls

-- where a stage begins, no call was made
abbrev pub NoneIsCalled : Stage → Type 0
NoneIsCalled stage = (k : ℕ) → k < stage.load.set.drives → CalledSo stage k [] []
