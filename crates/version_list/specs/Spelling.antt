-- The one spelling of each state. Numbers are big-endian, and a kind is a short text.
use Rattle.std.specs.Prelude.{ℕ, List, [], ◌∷◌, length, Option, Some, None}
use Rattle.std.specs.List.{flat_map}
use Rattle.std.specs.Int.{w8, w16, w32, w64}
use Rattle.field_reader.specs.Spelling.{number_bytes, short_text_bytes, joined}
use Rattle.version_list.specs.declared.state.KeyState.{KeyState}
use Rattle.version_list.specs.Rows.{ObjectRow, VersionRow, UploadRow, rows_of}

-- a version's class: 0 for a marker, 1 for an object
abbrev pub class_of : Option ObjectRow → ℕ
class_of None = 0
class_of (Some object) = 1

-- the fields of an object; a marker has none of them
abbrev pub object_bytes : Option ObjectRow → List ℕ
object_bytes None = []
object_bytes (Some o) = joined (
    o.data_id ∷ o.print ∷ number_bytes w64 o.size ∷ o.md5 ∷ number_bytes w16 o.parts ∷ o.upload ∷ short_text_bytes o.kind ∷ [])

-- the fields of a version
abbrev pub version_bytes : VersionRow → List ℕ
version_bytes v = joined (v.id ∷ number_bytes w8 (class_of v.object) ∷ number_bytes w64 v.modified ∷ object_bytes v.object ∷ [])

-- the fields of an upload
abbrev pub upload_bytes : UploadRow → List ℕ
upload_bytes u = joined (u.id ∷ number_bytes w64 u.opened ∷ short_text_bytes u.kind ∷ [])

-- the number of versions, the versions newest first, the number of uploads, and the uploads in order of opening
abbrev pub long_form : List VersionRow → List UploadRow → List ℕ
long_form versions uploads = joined (
    number_bytes w32 (length versions) ∷ flat_map version_bytes versions ∷ number_bytes w32 (length uploads) ∷ flat_map upload_bytes uploads ∷ [])

-- A state with no version and no upload is spelled as no byte.
abbrev pub rows_bytes : List VersionRow → List UploadRow → List ℕ
rows_bytes [] [] = []
rows_bytes [] (u ∷ uploads) = long_form [] (u ∷ uploads)
rows_bytes (v ∷ versions) uploads = long_form (v ∷ versions) uploads

-- the spelling of a state
abbrev pub spelling : KeyState → List ℕ
spelling state = rows_bytes (rows_of state).versions (rows_of state).uploads
