-- What a stage answers, and what the drives hold that took all.
use Rattle.std.specs.Prelude.{◌≡◌, ◌≢◌, ◌<◌, ◌≤◌, ℕ, true, List, [], length, slice_index_or, Some, None, Result, Ok, Err}
use Rattle.std.specs.Int.{IsBitSet}
use Rattle.call_types.specs.Good.{good_count}
use Rattle.md5.specs.Md5.{md5}
use Rattle.sha2.specs.Sha256.{sha256}
use Rattle.drive_base.specs.Files.{Files, Named}
use Rattle.drive_base.specs.Plan.{write_drives}
use Rattle.manifest_file.specs.Canonical.{IsCanonical}
use Rattle.manifest_file.specs.Print.{text_under}
use Rattle.manifest_file.specs.Spelling.{file_of}
use Rattle.manifest_file.specs.declared.manifest.Manifest.{Manifest}
use Rattle.stamp_id.specs.declared.version.VersionId.{VersionId}
use Rattle.body_print.specs.Holders.{HoldsManifest}
use Rattle.body_print.specs.Prints.{HasPrint}
use Rattle.put_stage.specs.Cells.{DataCells, data_of}
use Rattle.put_stage.specs.HeldBodies.{HoldsBody}
use Rattle.put_stage.specs.Manifests.{print_under, total_size}
use Rattle.put_stage.specs.Outcomes.{Acknowledges, Agrees}
use Rattle.put_stage.specs.TakenBodies.{HasTaken, manifest_in}
use Rattle.put_stage.specs.Work.{AtWork, Blocks, Disagrees, Keeps}
use Rattle.put_stage.specs.declared.stage.Load.{Load}
use Rattle.put_stage.specs.declared.stage.Stage.{Stage}
use Rattle.put_stage.specs.declared.answers.Staged.{Staged}
use Rattle.put_stage.specs.declared.answers.StageFault.{StageFault}
use Rattle.put_stage.specs.declared.answers.StageFault.TheVariants.{WriteQuorum, BadDigest, BodyCut, ReadFault, NoMemory}

-- the MD5 that was stated, if any, is that of the body
abbrev pub IsAgreed : Load → Type 0
IsAgreed load = (given : List ℕ) → load.stated ≡ Some given → given ≡ load.made.etag

-- the answer of a stage, by its letters and what it made: that the MD5 is another comes before that few drives took all
abbrev pub Concludes : Stage → Result Staged StageFault → Type 0
Concludes stage (Ok staged) =
    Acknowledges stage.load.set stage.whys stage.load.made.print stage.load.long stage.load.made.etag staged × IsAgreed stage.load
Concludes stage (Err (WriteQuorum whys)) =
    (whys ≡ stage.whys) × (good_count stage.whys < write_drives stage.load.set.drives stage.load.set.parity) × IsAgreed stage.load
Concludes stage (Err (BadDigest given computed)) = (stage.load.stated ≡ Some given) × (computed ≡ stage.load.made.etag) × (given ≢ computed)
Concludes stage (Err BodyCut) = ⊥
Concludes stage (Err ReadFault) = ⊥
Concludes stage (Err NoMemory) = ⊥

-- all is staged: the body is whole, its MD5 is the one that was stated, if any, and enough drives did all calls so far
pub record Succeeds (stage : Stage) : Type 0 where
  pub whole : stage.load.left ≡ 0
  pub agrees : Disagrees stage.load → ⊥
  pub enough : write_drives stage.load.set.drives stage.load.set.parity ≤ good_count stage.whys

-- kept files hold the body of a stage, under the one manifest of that body
abbrev pub HoldsStaged : Stage → Staged → List ℕ → List (List (List ℕ)) → ℕ → Named (List ℕ) → Type 0
HoldsStaged stage staged body shards k kept = (held : HoldsBody stage.load.set stage.load.names.id staged.print k kept)
    × (held.whole.manifest ≡ manifest_in stage.load body shards)

-- a body is staged: the answer tells the print, the length and the MD5 of exactly the bytes that were taken, and each drive that took it, and has
-- what the stage says, holds it. The print is that of the one manifest that was staged, whose shards are those that were staged
pub record IsStagedBody (stage : Stage) (staged : Staged) (body : List ℕ) (shards : List (List (List ℕ))) : Type 0 where
  pub print : HasPrint stage.load.set.drives stage.load.set.parity body staged.print
  pub printed : staged.print ≡ sha256 (text_under (manifest_in stage.load body shards))
  pub long : staged.length ≡ length body
  pub etag : staged.etag ≡ md5 body
  pub agrees : Agrees stage.load.stated body
  pub holds : (k : ℕ) (first : DataCells) (files : Files) → k < stage.load.set.drives → IsBitSet staged.took k
      → AtWork stage (Some (slice_index_or shards k [])) k first (data_of stage.load.names.id files)
      → HoldsStaged stage staged body shards k files.kept

-- whoever took bytes with a stage learns so of them
abbrev pub StagesBody : Stage → Result Staged StageFault → Type 0
StagesBody stage (Ok staged) = (body : List ℕ) (shards : List (List (List ℕ))) → HasTaken stage.load body shards → IsStagedBody stage staged body shards
StagesBody stage (Err _) = Unit {0}

-- a stage of a manifest alone, which is this one, with this ETag
pub record IsOfManifest (load : Load) (id : VersionId) (manifest : Manifest) (etag : List ℕ) : Type 0 where
  pub id_is : load.names.id ≡ id
  pub alone : load.alone ≡ true
  pub none_left : load.left ≡ 0
  pub none_stated : load.stated ≡ None
  pub file : load.made.manifest.items ≡ file_of manifest
  pub print : load.made.print ≡ print_under manifest
  pub long : load.long ≡ total_size manifest
  pub etag_is : load.made.etag ≡ etag

-- nothing was put in place where the MD5 is another than stated
abbrev pub PutsNothing : Stage → Result Staged StageFault → Type 0
PutsNothing stage (Ok _) = Unit {0}
PutsNothing stage (Err (WriteQuorum _)) = Unit {0}
PutsNothing stage (Err (BadDigest _ _)) = (k : ℕ) (blocks : Blocks) (first cells : DataCells) → AtWork stage blocks k first cells
    → Keeps first.manifest first.shard cells
PutsNothing stage (Err BodyCut) = Unit {0}
PutsNothing stage (Err ReadFault) = Unit {0}
PutsNothing stage (Err NoMemory) = Unit {0}

-- a manifest alone is staged: the answer tells its print, the length of its parts and the ETag that was handed in, and each drive that took it, and
-- has what the stage says, holds it
pub record IsStagedManifest (stage : Stage) (staged : Staged) (id : VersionId) (manifest : Manifest) (etag : List ℕ) : Type 0 where
  pub print : staged.print ≡ print_under manifest
  pub long : staged.length ≡ total_size manifest
  pub etag_is : staged.etag ≡ etag
  pub holds : (k : ℕ) (first : DataCells) (files : Files) → k < stage.load.set.drives → IsBitSet staged.took k → IsCanonical manifest
      → AtWork stage None k first (data_of id files) → HoldsManifest id staged.print files.kept

-- whoever made the stage of a manifest learns so of it
abbrev pub StagesManifestAlone : Stage → Result Staged StageFault → Type 0
StagesManifestAlone stage (Ok staged) = (id : VersionId) (manifest : Manifest) (etag : List ℕ) → IsOfManifest stage.load id manifest etag
    → IsStagedManifest stage staged id manifest etag
StagesManifestAlone stage (Err _) = Unit {0}
