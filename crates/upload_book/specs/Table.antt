-- The table of part records: where the part's data is, what it is, and when it was stored.
use Rattle.std.specs.Prelude.{◌≡◌, ℕ, ◌<◌, ◌^◌, List, [], ◌∷◌, length, Bool, nat_lt}
use Rattle.std.specs.Int.{w64}
use Rattle.field_reader.specs.Format.{Format, ◌>>=◌, done, field, number, with_rule}
use Rattle.field_reader.specs.Spelling.{number_bytes, joined}
use Rattle.sealed_record.specs.Table.{Table}
use Rattle.stamp_id.specs.VersionId.{id_bytes}
use Rattle.stamp_id.specs.IdField.{id_field}
use Rattle.call_types.specs.declared.version.PartRecord.{PartRecord}
use Rattle.upload_book.specs.declared.record.Spelled.{Spelled}
use Rattle.version_list.specs.Limits.{moment_limit}

-- what is spelled of a record: the id stands as its 16 bytes
pub record PartRow : Type 0 where
  pub data_id : List ℕ
  pub print : List ℕ
  pub size : ℕ
  pub md5 : List ℕ
  pub modified : ℕ

-- the row of a record
abbrev pub row_of : PartRecord → PartRow
row_of p = record { data_id = id_bytes p.data_id; print = p.print; size = p.length; md5 = p.md5; modified = p.modified }

-- whether a number is a moment: Unix seconds before the year 10000
abbrev pub is_moment : ℕ → Bool
is_moment moment = nat_lt moment moment_limit

-- the format of records: the fields in their order, each with its rule
unfoldable pub part : Format PartRow
part =
    id_field >>= λ data_id.
    field 32 >>= λ print.
    number w64 >>= λ size.
    field 16 >>= λ md5.
    with_rule is_moment (number w64) >>= λ modified.
    done (record { data_id = data_id; print = print; size = size; md5 = md5; modified = modified })

-- the spelling of a row
abbrev pub bytes_of : PartRow → List ℕ
bytes_of r = joined (r.data_id ∷ r.print ∷ number_bytes w64 r.size ∷ r.md5 ∷ number_bytes w64 r.modified ∷ [])

-- The fields of a record that is written have the sizes of their types, and its moment is before the year 10000.
pub record IsCanonical (p : PartRecord) : Type 0 where
  pub print_sized : length p.print ≡ 32
  pub size_fits : p.length < 2 ^ 64
  pub md5_sized : length p.md5 ≡ 16
  pub modified : p.modified < moment_limit

-- the table of records
abbrev pub part_table : Table Spelled PartRow
part_table = record { row = λ s. row_of s.0; format = part; bytes = bytes_of; Canonical = λ s. IsCanonical s.0 }
