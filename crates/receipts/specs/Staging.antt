-- What data drives were asked to keep of a body that is put, whatever they tell.
use Rattle.std.specs.Prelude.{◌≡◌, ℕ, ◌<◌, ◌≤◌, List, [], ◌∷◌, length, map, slice_index_or}
use Rattle.std.specs.List.{concat}
use Rattle.stamp_id.specs.declared.version.VersionId.{VersionId}
use Rattle.call_types.specs.Good.{good_count}
use Rattle.call_types.specs.declared.why.Why.{Why}
use Rattle.call_types.specs.declared.why.Why.TheVariants.{Behind, Damaged, Failed, Good, Lacks}
use Rattle.drive_base.specs.Plan.{data_drives, write_drives}
use Rattle.drive_base.specs.declared.plan.SetPlan.{SetPlan}
use Rattle.manifest_file.specs.Spelling.{file_of}
use Rattle.manifest_file.specs.declared.manifest.Manifest.{Manifest}
use Rattle.manifest_file.specs.declared.manifest.ManifestPart.{ManifestPart}
use Rattle.shard_file.specs.Shards.{root_of, shard_bytes}
use Rattle.body_print.specs.Plans.{data_plan}
use Rattle.body_print.specs.Shards.{AreShards}
use Rattle.body_print.specs.Staging.{staging_calls}
use Rattle.receipts.specs.Events.{Log, calls_at}
use Rattle.receipts.specs.Letters.{IsInUse, StageLetter}

-- the manifest of a register's body that is one part, with these shards
abbrev pub manifest_under : SetPlan → List ℕ → VersionId → ℕ → List (List (List ℕ)) → Manifest
manifest_under set register id long shards =
    let part : ManifestPart = record { id = id; length = long; roots = map root_of shards } in
    record { name = register; drives = (data_plan set id).drives; parity = (data_plan set id).parity; parts = part ∷ [] }

-- a drive took a shard and a manifest: the calls that a log has of it are those which write both, make them last and put them in place, each answered Ok
pub record TookData (id : VersionId) (shard manifest : List ℕ) (log : Log) (k : ℕ) : Type 0 where
  pub pieces : List (List ℕ)
  pub joined : concat pieces ≡ shard
  pub calls : calls_at k log ≡ staging_calls id pieces manifest

-- a body with its shards, as it is put under an id
pub record Staging : Type 0 where
  pub id : VersionId
  pub body : List ℕ
  pub shards : List (List (List ℕ))

-- a drive took its shard of a body and the body's manifest, or its letter tells why not
abbrev pub StagedLetter : SetPlan → List ℕ → Staging → Log → ℕ → Why → Type 0
StagedLetter set register staging log k Good = IsInUse set k × TookData staging.id (shard_bytes (slice_index_or staging.shards k []))
    (file_of (manifest_under set register staging.id (length staging.body) staging.shards)) log k
StagedLetter set register staging log k (Failed before after) = StageLetter set staging.id log k (Failed before after)
StagedLetter set register staging log k (Damaged damage) = StageLetter set staging.id log k (Damaged damage)
StagedLetter set register staging log k (Behind ballot) = StageLetter set staging.id log k (Behind ballot)
StagedLetter set register staging log k (Lacks kind) = StageLetter set staging.id log k (Lacks kind)

-- a body is staged under an id: as many drives as must take a write, or more, took it, and of each other one its letter tells why not
pub record IsStaged (set : SetPlan) (register : List ℕ) (id : VersionId) (body : List ℕ) (log : Log) : Type 0 where
  pub shards : List (List (List ℕ))
  pub are : AreShards (data_plan set id).drives (data_drives (data_plan set id).drives (data_plan set id).parity) body shards
  pub whys : List Why
  pub counted : length whys ≡ set.drives
  pub enough : write_drives (data_plan set id).drives (data_plan set id).parity ≤ good_count whys
  pub each : (k : ℕ) → k < set.drives
      → StagedLetter set register (record { id = id; body = body; shards = shards }) log k (slice_index_or whys k Good)
