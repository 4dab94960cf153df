-- What a drive holds of the data of a body, as its kept files say.
use Rattle.std.specs.Prelude.{◌≡◌, ◌<◌, ℕ, List, [], Some, slice_index_or}
use Rattle.sha2.specs.Sha256.{sha256}
use Rattle.stamp_id.specs.declared.version.VersionId.{VersionId}
use Rattle.drive_base.specs.Files.{Named}
use Rattle.manifest_file.specs.Canonical.{IsCanonical}
use Rattle.manifest_file.specs.Print.{text_under}
use Rattle.manifest_file.specs.Spelling.{file_of}
use Rattle.manifest_file.specs.declared.manifest.Manifest.{Manifest}
use Rattle.manifest_file.specs.declared.manifest.ManifestPart.{ManifestPart}
use Rattle.shard_file.specs.Shards.{AreShardBlocks, root_of, shard_bytes}
use Rattle.body_print.specs.Names.{manifest_name, shard_name}

-- kept files have a manifest: the one under the name of an id is canonical and has the print
pub record HoldsManifest (id : VersionId) (print : List ℕ) (kept : Named (List ℕ)) : Type 0 where
  pub manifest : Manifest
  pub canonical : IsCanonical manifest
  pub is : kept (manifest_name id) ≡ Some (file_of manifest)
  pub printed : print ≡ sha256 (text_under manifest)

-- the kept files of drive r of n have a part of a manifest: the shard file under the name of the part's id, of d data blocks a stripe, has the
-- manifest's root for that drive
pub record HoldsPart (n d : ℕ) (part : ManifestPart) (r : ℕ) (kept : Named (List ℕ)) : Type 0 where
  pub within : r < n
  pub blocks : List (List ℕ)
  pub sized : AreShardBlocks d part.length blocks
  pub is : kept (shard_name part.id) ≡ Some (shard_bytes blocks)
  pub root : slice_index_or part.roots r [] ≡ root_of blocks
