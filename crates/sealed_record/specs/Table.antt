-- Tables: how records of one type are spelled.
use Rattle.std.specs.Prelude.{ℕ, List}
use Rattle.field_reader.specs.Format.{Format}
use Rattle.seal_file.specs.Sealing.{sealed}

-- the table of records: the row of each, the format and the spelling of rows, and which records are written
pub record Table (A R : Type 0) : Type 1 where
  pub row : A → R
  pub format : Format R
  pub bytes : R → List ℕ
  pub Canonical : A → Type 0

-- the spelling of a record
abbrev pub spelling_of : {A R : Type 0} → Table A R → A → List ℕ
spelling_of table a = table.bytes (table.row a)

-- the file of a record of this kind
abbrev pub file_of : {A R : Type 0} → List ℕ → Table A R → A → List ℕ
file_of kind table a = sealed kind (spelling_of table a)
