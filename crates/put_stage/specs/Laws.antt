-- What holds of a stage at work whatever it does next.
use Rattle.std.specs.Prelude.{◌≡◌, ◌↔◌, ℕ, List, IsOk, Result, [], slice_index_or}
use Rattle.drive_base.specs.Files.{Files}
use Rattle.manifest_file.specs.Canonical.{IsCanonical}
use Rattle.put_stage.specs.Cells.{DataCells, LeavesCells, data_of}
use Rattle.put_stage.specs.StagedBodies.{Concludes, Succeeds}
use Rattle.put_stage.specs.Steps.{MayFinish, Serves}
use Rattle.put_stage.specs.TakenBodies.{HasTaken, manifest_in}
use Rattle.put_stage.specs.Work.{AtWork, Blocks, IsOpen, Keeps, due_at}
use Rattle.put_stage.specs.declared.stage.Load.{Load}
use Rattle.put_stage.specs.declared.stage.Stage.{Stage}
use Rattle.put_stage.specs.declared.answers.Staged.{Staged}
use Rattle.put_stage.specs.declared.answers.StageFault.{StageFault}
use Rattle.std.specs.List.{concat}
use Rattle.drive_base.specs.Trail.{DriveCall}
use Rattle.body_print.specs.Staging.{staging_calls}
use Rattle.shard_file.specs.Shards.{shard_bytes}
use Rattle.manifest_file.specs.Spelling.{file_of}
use Rattle.put_stage.specs.CallsSoFar.{CalledSo}
use Rattle.put_stage.specs.declared.dues.Due.TheVariants.{Nothing}

-- A stage is at work on a drive still where others left what is under its four names.
abbrev pub WorkOutlivesOthers : Type 0
WorkOutlivesOthers = (stage : Stage) (blocks : Blocks) (k : ℕ) (first : DataCells) (old new : Files) → LeavesCells stage.load.names.id old new
    → AtWork stage blocks k first (data_of stage.load.names.id old) → AtWork stage blocks k first (data_of stage.load.names.id new)

-- While bytes are left to be taken, or where the MD5 is another than stated, nothing is in place of what a stage writes.
abbrev pub OpenStagesPlaceNothing : Type 0
OpenStagesPlaceNothing = (stage : Stage) (blocks : Blocks) (k : ℕ) (first cells : DataCells) → IsOpen stage.load → AtWork stage blocks k first cells
    → Keeps first.manifest first.shard cells

-- The manifest of a body that is taken whole is canonical.
abbrev pub WholeBodiesHaveManifests : Type 0
WholeBodiesHaveManifests = (load : Load) (body : List ℕ) (shards : List (List (List ℕ))) → HasTaken load body shards → load.left ≡ 0
    → IsCanonical (manifest_in load body shards)

-- A stage that is over is answered that all is staged exactly where it succeeds.
abbrev pub SuccessIsAnswered : Type 0
SuccessIsAnswered = (stage : Stage) (answer : Result Staged StageFault) → MayFinish stage → Concludes stage answer → Succeeds stage ↔ IsOk answer

-- where a body is whole and a drive did all, it took its shard and the manifest
abbrev pub AllCallsAreStaging : Type 0
AllCallsAreStaging = (stage : Stage) (body : List ℕ) (shards : List (List (List ℕ))) (k : ℕ) (calls : List DriveCall) → HasTaken stage.load body shards
    → stage.load.left ≡ 0 → Serves stage k → due_at stage k ≡ Nothing → CalledSo stage k (slice_index_or shards k []) calls
    → (pieces : List (List ℕ)) × (concat pieces ≡ shard_bytes (slice_index_or shards k []))
    × (calls ≡ staging_calls stage.load.names.id pieces (file_of (manifest_in stage.load body shards)))
