-- Format files: how the format of a drive is spelled.
use Rattle.std.specs.Prelude.{◌≡◌, ℕ, ◌^◌, ◌<◌, List, [], ◌∷◌, length, Bool, nat_lt, codes}
use Rattle.std.specs.Int.{w8, w64}
use Rattle.field_reader.specs.Format.{Format, ◌>>=◌, done, field, number, with_rule}
use Rattle.field_reader.specs.Spelling.{number_bytes, joined}
use Rattle.sealed_record.specs.Fields.{format_number}
use Rattle.sealed_record.specs.Table.{Table, file_of}
use Rattle.term_gate.specs.declared.record.Format.{Format as DriveFormat}

-- what is spelled of a format: the set's id, its drives and its parity, the drive's index and the term
pub record Row : Type 0 where
  pub id : List ℕ
  pub drives : ℕ
  pub parity : ℕ
  pub index : ℕ
  pub term : ℕ

-- the row of a format
abbrev pub row_of : DriveFormat → Row
row_of f = record { id = f.id; drives = f.drives; parity = f.parity; index = f.index; term = f.term }

-- a term is below 2^48
abbrev pub is_term : ℕ → Bool
is_term term = nat_lt term (2 ^ 48)

-- the format number 1, the id, and the numbers
unfoldable pub layout : Format Row
layout =
    format_number >>= λ one.
    field 16 >>= λ id.
    number w8 >>= λ drives.
    number w8 >>= λ parity.
    number w8 >>= λ index.
    with_rule is_term (number w64) >>= λ term.
    done (record { id = id; drives = drives; parity = parity; index = index; term = term })

-- the spelling of a row
abbrev pub bytes_of : Row → List ℕ
bytes_of r = joined (number_bytes w8 1 ∷ r.id ∷ number_bytes w8 r.drives ∷ number_bytes w8 r.parity ∷ number_bytes w8 r.index ∷ number_bytes w64 r.term ∷ [])

-- a format that is written: its term is below 2^48
pub record IsCanonical (f : DriveFormat) : Type 0 where
  pub id : length f.id ≡ 16
  pub drives : f.drives < 2 ^ 8
  pub parity : f.parity < 2 ^ 8
  pub index : f.index < 2 ^ 8
  pub term : f.term < 2 ^ 48

-- the kind of format files
abbrev pub format_kind : List ℕ
format_kind = codes "OFMT"

-- the table of formats
abbrev pub format_table : Table DriveFormat Row
format_table = record { row = row_of; format = layout; bytes = bytes_of; Canonical = IsCanonical }

-- the file of a format
abbrev pub format_file : DriveFormat → List ℕ
format_file f = file_of format_kind format_table f
