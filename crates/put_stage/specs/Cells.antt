-- What a drive has under the four names of an id's data.
use Rattle.std.specs.Prelude.{◌≡◌, ℕ, false, List, Option}
use Rattle.std.specs.Str.{bytes_eq}
use Rattle.stamp_id.specs.declared.version.VersionId.{VersionId}
use Rattle.drive_base.specs.Files.{Files, LooseFile}
use Rattle.body_print.specs.Names.{shard_name, manifest_name, loose_shard_name, loose_manifest_name}

-- the manifest and the shard file that are kept, and those that are being written
pub record DataCells : Type 0 where
  pub manifest : Option (List ℕ)
  pub shard : Option (List ℕ)
  pub loose_manifest : Option LooseFile
  pub loose_shard : Option LooseFile

-- what the files of a drive have under the names of an id
abbrev pub data_of : VersionId → Files → DataCells
data_of id files = record {
  manifest = files.kept (manifest_name id);
  shard = files.kept (shard_name id);
  loose_manifest = files.loose (loose_manifest_name id);
  loose_shard = files.loose (loose_shard_name id);
}

-- a name is none of two
abbrev pub IsNeither : List ℕ → List ℕ → List ℕ → Type 0
IsNeither one two other = (bytes_eq one other ≡ false) × (bytes_eq two other ≡ false)

-- under all names but the four of an id nothing is changed
pub record Spares (id : VersionId) (old new : Files) : Type 0 where
  pub kept : (other : List ℕ) → IsNeither (manifest_name id) (shard_name id) other → new.kept other ≡ old.kept other
  pub shown : (other : List ℕ) → IsNeither (manifest_name id) (shard_name id) other → new.shown other ≡ old.shown other
  pub loose : (other : List ℕ) → IsNeither (loose_manifest_name id) (loose_shard_name id) other → new.loose other ≡ old.loose other

-- others left what is under the four names of an id as it was
abbrev pub LeavesCells : VersionId → Files → Files → Type 0
LeavesCells id old new = data_of id new ≡ data_of id old
