-- What reading and writing promise of each other.
use Rattle.std.specs.Prelude.{◌≡◌, ℕ, List, None, Ok}
use Rattle.field_reader.specs.Format.{value_of, fault_at}
use Rattle.field_reader.specs.Spelling.{IsBytes}
use Rattle.sealed_record.specs.Table.{Table, spelling_of, file_of}

-- A written record is found in its spelling.
abbrev pub SpellingsAreRead : {A R : Type 0} → Table A R → Type 0
SpellingsAreRead {A} table = (a : A) → table.Canonical a → value_of table.format (spelling_of table a) ≡ Ok (table.row a)

-- A row that is found in a body is that of a written record, and the body is its spelling.
abbrev pub FoundIsSpelled : {A R : Type 0} → Table A R → Type 0
FoundIsSpelled {A} {R} table = (body : List ℕ) (r : R) → IsBytes body → value_of table.format body ≡ Ok r
    → (a : A) × table.Canonical a × (table.row a ≡ r) × (body ≡ spelling_of table a)

-- Records with one row are the same.
abbrev pub RowsAreInjective : {A R : Type 0} → Table A R → Type 0
RowsAreInjective {A} table = (a b : A) → table.row a ≡ table.row b → a ≡ b

-- A table is lawful where its format takes the spellings of the written records, each as its own, and nothing else.
pub record IsLawful {A R : Type 0} (table : Table A R) : Type 0 where
  pub read : SpellingsAreRead table
  pub found : FoundIsSpelled table
  pub rows : RowsAreInjective table

-- A body with no fault spells a written record.
abbrev pub FaultlessIsSpelled : {A R : Type 0} → Table A R → Type 0
FaultlessIsSpelled {A} table = (body : List ℕ) → IsBytes body → fault_at table.format body ≡ None → (a : A) × table.Canonical a × (body ≡ spelling_of table a)

-- Two written records with one spelling are the same.
abbrev pub SpellingIsInjective : {A R : Type 0} → Table A R → Type 0
SpellingIsInjective {A} table = (a b : A) → table.Canonical a → table.Canonical b → spelling_of table a ≡ spelling_of table b → a ≡ b

-- Two written records with one file are the same.
abbrev pub FileIsInjective : {A R : Type 0} → List ℕ → Table A R → Type 0
FileIsInjective {A} kind table = (a b : A) → table.Canonical a → table.Canonical b → file_of kind table a ≡ file_of kind table b → a ≡ b
