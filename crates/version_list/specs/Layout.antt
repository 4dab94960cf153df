-- The format of key states: the fields in their order, each with its rule.
use Rattle.std.specs.Prelude.{ℕ, List, [], length, map, Option, Some, None, Ok, Bool, ◌&&◌, ◌||◌, not, ◌==◌, nat_lt, nat_le, if◌then◌else◌}
use Rattle.std.specs.List.{list_any, list_all}
use Rattle.std.specs.Str.{bytes_eq}
use Rattle.std.specs.Int.{w8, w16, w32, w64}
use Rattle.field_reader.specs.Format.{Format, ◌>>=◌, done, field, number, short_text, with_rule, series}
use Rattle.stamp_id.specs.IdField.{is_id, id_field}
use Rattle.version_list.specs.Rows.{ObjectRow, VersionRow, UploadRow, StateRows}
use Rattle.version_list.specs.Limits.{most_versions, most_uploads, moment_limit}

-- whether bytes are zeros, as where there is no id
unfoldable pub is_no_id : List ℕ → Bool
is_no_id bytes = list_all (λ byte. byte == 0) bytes

-- whether bytes are one of these names
unfoldable pub is_among : List (List ℕ) → List ℕ → Bool
is_among names bytes = list_any (λ name. bytes_eq name bytes) names

-- whether a number is a moment: Unix seconds before the year 10000
abbrev pub is_moment : ℕ → Bool
is_moment moment = nat_lt moment moment_limit

-- whether a number is a class of versions: 0 for a marker, 1 for an object
abbrev pub is_class : ℕ → Bool
is_class class = nat_lt class 2

-- an object's upload id, which is missing exactly where it has no parts
abbrev pub upload_id : ℕ → Format (List ℕ)
upload_id parts = if parts == 0 then with_rule is_no_id (field 16) else id_field

-- the fields that an object has and a marker has not
unfoldable pub object : Format (Option ObjectRow)
object =
    id_field >>= λ data_id.
    field 32 >>= λ print.
    number w64 >>= λ size.
    field 16 >>= λ md5.
    number w16 >>= λ parts.
    upload_id parts >>= λ upload.
    short_text >>= λ kind.
    done (Some (record { data_id = data_id; print = print; size = size; md5 = md5; parts = parts; upload = upload; kind = kind }))

-- what stands behind the moment of a version of this class
abbrev pub object_of_class : ℕ → Format (Option ObjectRow)
object_of_class class = if class == 0 then done None else object

-- whether bytes are not used yet
abbrev pub is_new : (List ℕ → Bool) → List ℕ → Bool
is_new is_used bytes = not (is_used bytes)

-- a version's name: 16 zeros for `null`, or an id, and not used yet
abbrev pub name_rule : (List ℕ → Bool) → List ℕ → Bool
name_rule is_used bytes = (is_no_id bytes || is_id bytes) && is_new is_used bytes

-- a version whose name is not used yet
unfoldable pub version : (List ℕ → Bool) → Format VersionRow
version is_used =
    with_rule (name_rule is_used) (field 16) >>= λ id.
    with_rule is_class (number w8) >>= λ class.
    with_rule is_moment (number w64) >>= λ modified.
    object_of_class class >>= λ object.
    done (record { id = id; modified = modified; object = object })

-- an upload whose id is not used yet
unfoldable pub upload : (List ℕ → Bool) → Format UploadRow
upload is_used =
    with_rule (is_new is_used) id_field >>= λ id.
    with_rule is_moment (number w64) >>= λ opened.
    short_text >>= λ kind.
    done (record { id = id; opened = opened; kind = kind })

-- the names of versions and of uploads
abbrev pub version_names : List VersionRow → List (List ℕ)
version_names versions = map (λ v. v.id) versions

-- the same of uploads
abbrev pub upload_names : List UploadRow → List (List ℕ)
upload_names uploads = map (λ u. u.id) uploads

-- Each version has a name that none before it has.
unfoldable pub versions : ℕ → Format (List VersionRow)
versions count = series count (λ before. version (is_among (version_names before))) []

-- Each upload has an id that is not used yet, and that no upload before it has.
unfoldable pub uploads : (List ℕ → Bool) → ℕ → Format (List UploadRow)
uploads is_used count = series count (λ before. upload (λ id. is_used id || is_among (upload_names before) id)) []

-- A key has at most 10,000 versions.
abbrev pub is_version_count : ℕ → Bool
is_version_count count = nat_le count most_versions

-- Where there is no version, the number of uploads is not 0.
abbrev pub is_upload_count : ℕ → ℕ → Bool
is_upload_count versions count = nat_le count most_uploads && (nat_lt 0 versions || nat_lt 0 count)

-- a state with a version or an upload
unfoldable pub long_state : Format StateRows
long_state =
    with_rule is_version_count (number w32) >>= λ version_count.
    versions version_count >>= λ rows.
    with_rule (is_upload_count version_count) (number w32) >>= λ upload_count.
    uploads (is_among (version_names rows)) upload_count >>= λ others.
    done (record { versions = rows; uploads = others })

-- the format of key states; no byte is the state with no version and no upload
unfoldable pub key_state : Format StateRows
key_state spot = if length spot.left == 0 then Ok (record { versions = []; uploads = [] }, spot) else long_state spot
