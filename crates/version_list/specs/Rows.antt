-- States as they are spelled: each id stands as its 16 bytes.
use Rattle.std.specs.Prelude.{ℕ, List, map, replicate, Option, Some, None}
use Rattle.stamp_id.specs.declared.version.VersionId.{VersionId}
use Rattle.stamp_id.specs.VersionId.{id_bytes}
use Rattle.call_types.specs.declared.names.VersionName.{VersionName}
use Rattle.call_types.specs.declared.names.VersionName.TheVariants.{Null, Id}
use Rattle.call_types.specs.declared.version.Version.{Version}
use Rattle.call_types.specs.declared.version.Upload.{Upload}
use Rattle.call_types.specs.declared.version.What.{What}
use Rattle.call_types.specs.declared.version.What.TheVariants.{Marker, Object}
use Rattle.version_list.specs.declared.state.KeyState.{KeyState}

-- the fields that an object has and a marker has not
pub record ObjectRow : Type 0 where
  pub data_id : List ℕ
  pub print : List ℕ
  pub size : ℕ
  pub md5 : List ℕ
  pub parts : ℕ
  pub upload : List ℕ
  pub kind : List ℕ

-- a version; a marker is no object
pub record VersionRow : Type 0 where
  pub id : List ℕ
  pub modified : ℕ
  pub object : Option ObjectRow

-- an open upload
pub record UploadRow : Type 0 where
  pub id : List ℕ
  pub opened : ℕ
  pub kind : List ℕ

-- all that a key has
pub record StateRows : Type 0 where
  pub versions : List VersionRow
  pub uploads : List UploadRow

-- 16 zero bytes stand where there is no id
unfoldable pub no_id : List ℕ
no_id = replicate 16 0

-- the bytes of a version's name
abbrev pub name_field : VersionName → List ℕ
name_field Null = no_id
name_field (Id id) = id_bytes id

-- the bytes of an upload's id, where there is an upload
abbrev pub upload_field : Option VersionId → List ℕ
upload_field None = no_id
upload_field (Some id) = id_bytes id

-- what is spelled of a version that is an object
abbrev pub object_row : What → Option ObjectRow
object_row Marker = None
object_row (Object data_id print size md5 parts upload kind) = Some (record {
  data_id = id_bytes data_id;
  print = print;
  size = size;
  md5 = md5;
  parts = parts;
  upload = upload_field upload;
  kind = kind;
})

-- what is spelled of a version
abbrev pub version_row : Version → VersionRow
version_row version = record { id = name_field version.id; modified = version.modified; object = object_row version.what }

-- what is spelled of an upload
abbrev pub upload_row : Upload → UploadRow
upload_row upload = record { id = id_bytes upload.id; opened = upload.opened; kind = upload.kind }

-- what is spelled of a state
abbrev pub rows_of : KeyState → StateRows
rows_of state = record { versions = map version_row state.versions; uploads = map upload_row state.uploads }
