-- The names of the files of data on a drive, by the data's id.
use Rattle.std.specs.Prelude.{ℕ, List, ◌++◌, codes}
use Rattle.hex.specs.Hex.{encode_lower}
use Rattle.stamp_id.specs.VersionId.{id_bytes}
use Rattle.stamp_id.specs.declared.version.VersionId.{VersionId}

-- the 32 lower-case hex digits of an id
abbrev pub digits_of : VersionId → List ℕ
digits_of id = encode_lower (id_bytes id)

-- the name of the shard file
abbrev pub shard_name : VersionId → List ℕ
shard_name id = codes "s/" ++ digits_of id

-- the name of the manifest
abbrev pub manifest_name : VersionId → List ℕ
manifest_name id = codes "m/" ++ digits_of id

-- the loose name under which the shard file is written
abbrev pub loose_shard_name : VersionId → List ℕ
loose_shard_name id = codes "s" ++ digits_of id

-- the loose name under which the manifest is written
abbrev pub loose_manifest_name : VersionId → List ℕ
loose_manifest_name id = codes "m" ++ digits_of id
