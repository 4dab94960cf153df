-- Data that is in place on a drive that behaved.
use Rattle.std.specs.Prelude.{◌≡◌, ◌≢◌, ℕ, List, [], ◌∷◌, All, None, Some}
use Rattle.std.specs.List.{concat}
use Rattle.drive_base.specs.Files.{Files}
use Rattle.drive_base.specs.Trail.{DriveCall, Size, Read, Append, Sync, Rename, Discard, Remove, Names}
use Rattle.body_print.specs.Names.{loose_manifest_name, loose_shard_name, manifest_name, shard_name}
use Rattle.body_print.specs.Staging.{staging_calls}
use Rattle.stamp_id.specs.declared.version.VersionId.{VersionId}
use Rattle.drive_trails.specs.Behaving.{AreMerged, Leads}

-- a loose name, and a name, are none of an id's
pub record IsOtherLoose (id : VersionId) (loose : List ℕ) : Type 0 where
  pub manifest : loose ≢ loose_manifest_name id
  pub shard : loose ≢ loose_shard_name id

pub record IsOtherName (id : VersionId) (name : List ℕ) : Type 0 where
  pub manifest : name ≢ manifest_name id
  pub shard : name ≢ shard_name id

-- a call changes no file of an id
abbrev pub SparesId : VersionId → DriveCall → Type 0
SparesId id (Size name answer) = Unit {0}
SparesId id (Read name at before answer after) = Unit {0}
SparesId id (Append loose bytes answer) = IsOtherLoose id loose
SparesId id (Sync loose answer) = IsOtherLoose id loose
SparesId id (Rename loose name answer) = IsOtherLoose id loose × IsOtherName id name
SparesId id (Discard loose answer) = IsOtherLoose id loose
SparesId id (Remove name answer) = IsOtherName id name
SparesId id (Names from most answer) = Unit {0}

-- nothing is being written under the loose names of an id
pub record HasNoneLoose (id : VersionId) (files : Files) : Type 0 where
  pub manifest : files.loose (loose_manifest_name id) ≡ None
  pub shard : files.loose (loose_shard_name id) ≡ None

-- a shard and a manifest are in place under an id: kept, and shown
pub record IsInPlace (id : VersionId) (shard manifest : List ℕ) (files : Files) : Type 0 where
  pub kept_manifest : files.kept (manifest_name id) ≡ Some manifest
  pub shown_manifest : files.shown (manifest_name id) ≡ Some manifest
  pub kept_shard : files.kept (shard_name id) ≡ Some shard
  pub shown_shard : files.shown (shard_name id) ≡ Some shard

-- where the calls of a way that staged the data of an id, and all other calls, which change no file of it, lead a drive's files on, that data is in place
abbrev pub StagedDataIsInPlace : Type 0
StagedDataIsInPlace = (id : VersionId) (pieces : List (List ℕ)) (manifest : List ℕ) (others all : List DriveCall) (before after : Files)
    → HasNoneLoose id before → AreMerged (staging_calls id pieces manifest) others all → All (SparesId id) others → Leads all before after
    → IsInPlace id (concat pieces) manifest after
