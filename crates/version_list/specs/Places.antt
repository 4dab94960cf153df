-- Where a spelling names an id.
use Rattle.std.specs.Prelude.{◌≡◌, ℕ, ◌+◌, List, [], ◌∷◌, ◌++◌, length, Bool, true, false, ◌&&◌, Option, Some, None, Result, Ok, Err, if◌then◌else◌}
use Rattle.std.specs.List.{flat_map}
use Rattle.std.specs.Int.{w8, w16, w32, w64}
use Rattle.std.specs.Str.{bytes_eq}
use Rattle.field_reader.specs.Format.{value_of}
use Rattle.field_reader.specs.Spelling.{number_bytes, short_text_bytes}
use Rattle.stamp_id.specs.VersionId.{id_bytes}
use Rattle.stamp_id.specs.declared.version.VersionId.{VersionId}
use Rattle.version_list.specs.declared.state.KeyState.{KeyState}
use Rattle.version_list.specs.Layout.{key_state}
use Rattle.version_list.specs.Rows.{ObjectRow, VersionRow, UploadRow, StateRows}
use Rattle.version_list.specs.Spelling.{class_of, spelling}
use Rattle.version_list.specs.State.{IsCanonical}

-- the bytes of a field, and whether it is one of an id
pub record Part : Type 0 where
  pub of_id : Bool
  pub bytes : List ℕ

-- a field of an id, and one of anything else
abbrev pub id_part : List ℕ → Part
id_part bytes = record { of_id = true; bytes = bytes }

abbrev pub other_part : List ℕ → Part
other_part bytes = record { of_id = false; bytes = bytes }

-- the fields of an object; a marker has none of them
abbrev pub object_parts : Option ObjectRow → List Part
object_parts None = []
object_parts (Some o) =
    id_part o.data_id ∷ other_part o.print ∷ other_part (number_bytes w64 o.size) ∷ other_part o.md5
    ∷ other_part (number_bytes w16 o.parts) ∷ id_part o.upload ∷ other_part (short_text_bytes o.kind) ∷ []

-- the fields of a version
abbrev pub version_parts : VersionRow → List Part
version_parts v = id_part v.id ∷ other_part (number_bytes w8 (class_of v.object)) ∷ other_part (number_bytes w64 v.modified) ∷ object_parts v.object

-- the fields of an upload
abbrev pub upload_parts : UploadRow → List Part
upload_parts u = id_part u.id ∷ other_part (number_bytes w64 u.opened) ∷ other_part (short_text_bytes u.kind) ∷ []

-- the fields of a state with a version or an upload
abbrev pub long_parts : List VersionRow → List UploadRow → List Part
long_parts versions uploads =
    other_part (number_bytes w32 (length versions)) ∷ (flat_map version_parts versions
    ++ other_part (number_bytes w32 (length uploads)) ∷ flat_map upload_parts uploads)

-- the fields of a state, in the order of its spelling
abbrev pub rows_parts : List VersionRow → List UploadRow → List Part
rows_parts [] [] = []
rows_parts [] (u ∷ uploads) = long_parts [] (u ∷ uploads)
rows_parts (v ∷ versions) uploads = long_parts (v ∷ versions) uploads

-- whether a field of an id has these bytes
abbrev pub spells : List ℕ → Part → Bool
spells id part = part.of_id && bytes_eq part.bytes id

-- the place of the first field of an id that has these bytes, where the first field stands at `at`
abbrev pub place_from : ℕ → List ℕ → List Part → Option ℕ
place_from at id [] = None
place_from at id (part ∷ parts) = if spells id part then Some at else place_from (at + length part.bytes) id parts

-- the same of the fields that a content has
abbrev pub place_found : List ℕ → Result StateRows ℕ → Option ℕ
place_found id (Ok rows) = place_from 0 id (rows_parts rows.versions rows.uploads)
place_found id (Err place) = None

-- The place, from 0, of a content's first field of an id that has these bytes: a version's name, the id of its data, that of
-- the upload that made it, or that of an open upload. A content that spells no state has no fields.
abbrev pub id_place : List ℕ → List ℕ → Option ℕ
id_place id content = place_found id (value_of key_state content)

-- bytes stand in a content at this place
pub record StandsAt (bytes content : List ℕ) (place : ℕ) : Type 0 where
  pub front : List ℕ
  pub back : List ℕ
  pub is : content ≡ front ++ (bytes ++ back)
  pub at : length front ≡ place

-- At the place of an id its bytes stand.
abbrev pub PlacesAreInContents : Type 0
PlacesAreInContents =
    (id : VersionId) (state : KeyState) → IsCanonical state → (place : ℕ)
    → id_place (id_bytes id) (spelling state) ≡ Some place → StandsAt (id_bytes id) (spelling state) place
