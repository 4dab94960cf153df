-- Two different byte strings with one SHA-256, of which a reader met one.
use Rattle.std.specs.Prelude.{◌≡◌, ◌≢◌, ◌⊎◌, ℕ, ◌-◌, ◌<◌, Bool, IsTrue, List, [], Some, length, take, drop, slice_index_or}
use Rattle.std.specs.List.{concat}
use Rattle.sha2.specs.Sha256.{sha256}
use Rattle.field_reader.specs.Spelling.{IsBytes}
use Rattle.stamp_id.specs.declared.version.VersionId.{VersionId}
use Rattle.drive_base.specs.Files.{Files}
use Rattle.manifest_file.specs.Canonical.{IsCanonical}
use Rattle.manifest_file.specs.Print.{text_under}
use Rattle.manifest_file.specs.Spelling.{file_of}
use Rattle.manifest_file.specs.declared.manifest.Manifest.{Manifest}
use Rattle.shard_file.specs.Shards.{table_of}
use Rattle.body_print.specs.Names.{shard_name, manifest_name}
use Rattle.body_print.specs.Prints.{IsPrintText}
use Rattle.body_print.specs.Shards.{AreShards}

-- two different byte strings with one SHA-256
pub record IsClash (read other : List ℕ) : Type 0 where
  pub read_bytes : IsBytes read
  pub other_bytes : IsBytes other
  pub differ : read ≢ other
  pub same : sha256 read ≡ sha256 other

-- a digest table or a block of a part of a body
pub record IsTableOrBlock (n d : ℕ) (part bytes : List ℕ) : Type 0 where
  pub shards : List (List (List ℕ))
  pub are : AreShards n d part shards
  pub r : ℕ
  pub within : r < n
  pub is : (bytes ≡ table_of (slice_index_or shards r []))
      ⊎ ((i : ℕ) × (i < length (slice_index_or shards r [])) × (bytes ≡ slice_index_or (slice_index_or shards r []) i []))

-- bytes that are hashed for the print of a body: the text under it, or a table or a block of a part
pub record IsHashed (n p : ℕ) (body print bytes : List ℕ) : Type 0 where
  pub parts : List (List ℕ)
  pub text : List ℕ
  pub joins : body ≡ concat parts
  pub under : IsPrintText n p parts text
  pub hashed : print ≡ sha256 text
  pub is : (bytes ≡ text) ⊎ ((i : ℕ) × (i < length parts) × IsTableOrBlock n (n - p) (slice_index_or parts i []) bytes)

-- bytes that were read have the SHA-256 of others that are hashed for the print of a body
pub record ClashesWith (n p : ℕ) (body print read : List ℕ) : Type 0 where
  pub other : List ℕ
  pub clash : IsClash read other
  pub is_hashed : IsHashed n p body print other

-- a file of a drive shows these bytes: a canonical manifest of which they are the text under the print, or a piece of a
-- shard file
abbrev pub IsShown : Files → List ℕ → Type 0
IsShown files bytes =
    ((id : VersionId) × (m : Manifest) × IsCanonical m × (files.shown (manifest_name id) ≡ Some (file_of m)) × (bytes ≡ text_under m))
    ⊎ ((id : VersionId) × (file : List ℕ) × (at : ℕ) × (files.shown (shard_name id) ≡ Some file)
    × (bytes ≡ take (length bytes) (drop at file)))

module _ {D : Type 0} (tells : D → Bool) (files : D → Files) where
  -- a drive that tells what it holds shows these bytes
  abbrev pub WasRead : List D → List ℕ → Type 0
  WasRead drives bytes =
      (k : ℕ) × (k < length drives) × ((default : D) → IsTrue (tells (slice_index_or drives k default))
      → IsShown (files (slice_index_or drives k default)) bytes)

  -- what was read from one of the drives and what is hashed for the body's print are two byte strings with one SHA-256
  pub record Clash (n p : ℕ) (body print : List ℕ) (drives : List D) : Type 0 where
    pub read : List ℕ
    pub was_read : WasRead drives read
    pub clash : ClashesWith n p body print read
