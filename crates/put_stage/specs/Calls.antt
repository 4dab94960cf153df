-- The drive call that a step makes.
use Rattle.std.specs.Prelude.{◌≡◌, ℕ, [], slice_index_or, Result}
use Rattle.call_types.specs.declared.why.Why.{Why}
use Rattle.body_print.specs.Names.{shard_name, manifest_name, loose_shard_name, loose_manifest_name}
use Rattle.drive_base.specs.declared.fault.DriveFault.{DriveFault}
use Rattle.drive_base.specs.DriveModel.{DriveModel}
use Rattle.drive_base.specs.Trail.{DriveCall, Append, Rename, Sync}
use Rattle.drive_base.specs.View.{DriveView}
use Rattle.file_access.specs.Trails.{AnswerOf}
use Rattle.put_stage.specs.StripeBlocks.{all_bytes, block_at}
use Rattle.put_stage.specs.declared.dues.Due.{Due}
use Rattle.put_stage.specs.declared.dues.Due.TheVariants.{Block, Table, SyncShard, Manifest, SyncManifest, PlaceManifest, PlaceShard, Nothing}
use Rattle.put_stage.specs.declared.stage.Load.{Load}

-- it is the call that is due on drive k, with this answer
abbrev pub IsDueCall : Load → ℕ → Due → Result (Unit {0}) DriveFault → DriveCall → Type 0
IsDueCall load k Block answer call = call ≡ Append (loose_shard_name load.names.id) (block_at k load.window) answer
IsDueCall load k Table answer call = call ≡ Append (loose_shard_name load.names.id) (slice_index_or (all_bytes load.tables.items) k []) answer
IsDueCall load k SyncShard answer call = call ≡ Sync (loose_shard_name load.names.id) answer
IsDueCall load k Manifest answer call = call ≡ Append (loose_manifest_name load.names.id) load.made.manifest.items answer
IsDueCall load k SyncManifest answer call = call ≡ Sync (loose_manifest_name load.names.id) answer
IsDueCall load k PlaceManifest answer call = call ≡ Rename (loose_manifest_name load.names.id) (manifest_name load.names.id) answer
IsDueCall load k PlaceShard answer call = call ≡ Rename (loose_shard_name load.names.id) (shard_name load.names.id) answer
IsDueCall load k Nothing answer call = ⊥

-- of drive k the call that is due was made, and no other; the drive's answer is that of the step
pub record CallsDue (load : Load) (k : ℕ) (due : Due) (result : Result (Unit {0}) Why) (old new : DriveView) : Type 0 where
  pub call : DriveCall
  pub answer : Result (Unit {0}) DriveFault
  pub is_due : IsDueCall load k due answer call
  pub answered : AnswerOf result answer
  pub model : DriveModel call old new
