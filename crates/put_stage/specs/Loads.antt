-- How a stage begins.
use Rattle.std.specs.Prelude.{◌≡◌, ◌<◌, ℕ, List, [], Option, Some, None, replicate, string_bytes}
use Rattle.std.specs.Int.{IsBitSet}
use Rattle.call_types.specs.declared.why.FileKind.TheVariants.{Format}
use Rattle.call_types.specs.declared.why.Why.TheVariants.{Good, Lacks}
use Rattle.stamp_id.specs.declared.version.VersionId.{VersionId}
use Rattle.drive_base.specs.declared.plan.SetPlan.{SetPlan}
use Rattle.manifest_file.specs.declared.manifest.Manifest.{Manifest}
use Rattle.put_stage.specs.CallsSoFar.{NoneIsCalled}
use Rattle.put_stage.specs.Cells.{DataCells}
use Rattle.put_stage.specs.StagedBodies.{IsOfManifest}
use Rattle.put_stage.specs.TakenBodies.{HasTaken}
use Rattle.put_stage.specs.Work.{AtWork, Blocks, HasNoneLoose, why_at}
use Rattle.put_stage.specs.declared.stage.Load.{Load}
use Rattle.put_stage.specs.declared.stage.Stage.{Stage}

-- a drive that is out lacks its format file, and the others did all calls so far
pub record HasFirstLetters (stage : Stage) : Type 0 where
  pub out : (k : ℕ) → k < stage.load.set.drives → IsBitSet stage.load.set.out k → why_at stage k ≡ Lacks Format
  pub in_use : (k : ℕ) → k < stage.load.set.drives → (IsBitSet stage.load.set.out k → ⊥) → why_at stage k ≡ Good

-- nothing is done yet on a drive without a loose file of the stage's names
abbrev pub IsFresh : Stage → Blocks → Type 0
IsFresh stage blocks = (k : ℕ) (first : DataCells) → k < stage.load.set.drives → HasNoneLoose first → AtWork stage blocks k first first

-- a load of a body of which nothing is taken
pub record IsFirstLoad (set : SetPlan) (id : VersionId) (name : List ℕ) (length : ℕ) (stated : Option (List ℕ)) (load : Load) : Type 0 where
  pub set_is : load.set ≡ set
  pub id_is : load.names.id ≡ id
  pub name_is : string_bytes load.name ≡ name
  pub length_is : load.long ≡ length
  pub stated_is : load.stated ≡ stated
  pub taken : HasTaken load [] (replicate set.drives [])

-- a stage of a body begins
pub record BeginsBody (set : SetPlan) (id : VersionId) (name : List ℕ) (length : ℕ) (stated : Option (List ℕ)) (stage : Stage) : Type 0 where
  pub load : IsFirstLoad set id name length stated stage.load
  pub letters : HasFirstLetters stage
  pub fresh : IsFresh stage (Some [])
  pub uncalled : NoneIsCalled stage

-- a stage of a manifest alone begins
pub record BeginsManifest (set : SetPlan) (id : VersionId) (manifest : Manifest) (etag : List ℕ) (stage : Stage) : Type 0 where
  pub set_is : stage.load.set ≡ set
  pub load : IsOfManifest stage.load id manifest etag
  pub letters : HasFirstLetters stage
  pub fresh : IsFresh stage None
