-- The names of the files of data, by their kind.
use Rattle.std.specs.Prelude.{ℕ, List}
use Rattle.stamp_id.specs.declared.version.VersionId.{VersionId}
use Rattle.body_print.specs.Names.{manifest_name, shard_name}
use Rattle.object_ops.specs.declared.data_files.DataFile.{DataFile}
use Rattle.object_ops.specs.declared.data_files.DataFile.TheVariants.{Manifest, Shard}

-- the name of a file of an id
abbrev pub name_by : DataFile → VersionId → List ℕ
name_by Shard id = shard_name id
name_by Manifest id = manifest_name id
