-- How many bytes the spelling of a state has.
use Rattle.std.proofs.Common.{◌≡◌, ℕ, ◌+◌, List, [], ◌++◌, length, Option, Some, None, refl, arith}
use Rattle.std.specs.List.{flat_map}
use Rattle.std.specs.Int.{w8, w16, w32, w64}
use Rattle.std.proofs.lemmas.List.{length-append}
use Rattle.field_reader.specs.Spelling.{number_bytes, short_text_bytes}
use Rattle.stamp_id.specs.VersionId.{id_bytes}
use Rattle.stamp_id.specs.declared.version.VersionId.{VersionId}
use Rattle.stamp_id.proofs.IdLemmas.{length-id_bytes}
use Rattle.call_types.specs.declared.version.Version.{Version}
use Rattle.call_types.specs.declared.version.Upload.{Upload}
use Rattle.call_types.specs.declared.version.What.{What}
use Rattle.call_types.specs.declared.version.What.TheVariants.{Marker, Object}
use Rattle.version_list.specs.State.{IsCanonicalWhat}
use Rattle.version_list.specs.Rows.{VersionRow, UploadRow, name_field, upload_field, object_row, version_row, upload_row}
use Rattle.version_list.specs.Spelling.{class_of, object_bytes, version_bytes, upload_bytes, long_form}
use Rattle.version_list.proofs.Canonical.{name_size}
use Rattle.version_list.proofs.NoId.{no_id-size}

-- the bytes of an object's fields; a marker has none
abbrev pub object_size : What → ℕ
object_size Marker = 0
object_size (Object data_id print size md5 parts upload kind) = 91 + length kind

upload_field-size : (upload : Option VersionId) → length (upload_field upload) ≡ 16
upload_field-size None = no_id-size
upload_field-size (Some id) = length-id_bytes id

object_bytes-size : (what : What) → IsCanonicalWhat what → length (object_bytes (object_row what)) ≡ object_size what
unfolding number_bytes
object_bytes-size Marker c = refl
object_bytes-size (Object data_id print size md5 parts upload kind) c =
    let end = short_text_bytes kind ++ [] in
    let behind_md5 = number_bytes w16 parts ++ (upload_field upload ++ end) in
    let behind_print = number_bytes w64 size ++ (md5 ++ behind_md5) in
    let print_sized = c.print_sized in
    let md5_sized = c.md5_sized in
    omega (
      arith,
      length-append (id_bytes data_id) (print ++ behind_print),
      length-append print behind_print,
      length-append md5 behind_md5,
      length-append (upload_field upload) end,
      length-append kind [],
      length-id_bytes data_id,
      upload_field-size upload,
      print_sized,
      md5_sized,
    )

-- the bytes of a version
pub version_bytes-size : (v : Version) → IsCanonicalWhat v.what → length (version_bytes (version_row v)) ≡ 25 + object_size v.what
unfolding number_bytes
version_bytes-size v c =
    let object = object_bytes (object_row v.what) in
    omega (
      arith,
      length-append (name_field v.id) (number_bytes w8 (class_of (object_row v.what)) ++ (number_bytes w64 v.modified ++ (object ++ []))),
      length-append object [],
      name_size v.id,
      object_bytes-size v.what c,
    )

-- the bytes of an upload
pub upload_bytes-size : (u : Upload) → length (upload_bytes (upload_row u)) ≡ 25 + length u.kind
unfolding number_bytes
upload_bytes-size u = omega (
  arith,
  length-append (id_bytes u.id) (number_bytes w64 u.opened ++ (short_text_bytes u.kind ++ [])),
  length-append u.kind [],
  length-id_bytes u.id,
)

-- the bytes of a state with a version or an upload
pub long_form-size : (vs : List VersionRow) (us : List UploadRow) → length (long_form vs us) ≡ 8 + length (flat_map version_bytes vs) + length (flat_map upload_bytes us)
unfolding number_bytes
long_form-size vs us =
    let uploads = flat_map upload_bytes us in
    omega (arith, length-append (flat_map version_bytes vs) (number_bytes w32 (length us) ++ (uploads ++ [])), length-append uploads [])
