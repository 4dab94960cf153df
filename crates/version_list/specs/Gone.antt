-- The data that a key no longer has.
use Rattle.std.specs.Prelude.{ℕ, Bool, false, not, List, Option, Some, None, filter}
use Rattle.std.specs.List.{list_any, filter_map, flat_map}
use Rattle.stamp_id.specs.VersionId.{id_bytes}
use Rattle.stamp_id.specs.declared.version.VersionId.{VersionId}
use Rattle.call_types.specs.declared.version.Version.{Version}
use Rattle.call_types.specs.declared.version.What.{What}
use Rattle.call_types.specs.declared.version.What.TheVariants.{Marker, Object}
use Rattle.version_list.specs.Naming.{same_id}

-- the data of a version; a marker has none
abbrev pub data_of : What → Option VersionId
data_of Marker = None
data_of (Object data_id print size md5 parts upload kind) = Some data_id

-- whether a version has this data
abbrev pub is_data : VersionId → What → Bool
is_data id Marker = false
is_data id (Object data_id print size md5 parts upload kind) = same_id data_id id

-- the same of a version
abbrev pub has_data : VersionId → Version → Bool
has_data id v = is_data id v.what

-- the data ids of the old versions, in their order, that no new version has
abbrev pub gone_ids : List Version → List Version → List VersionId
gone_ids old new = filter (λ id. not (list_any (has_data id) new)) (filter_map (λ v. data_of v.what) old)

-- their bytes, joined
abbrev pub gone_bytes : List Version → List Version → List ℕ
gone_bytes old new = flat_map id_bytes (gone_ids old new)
