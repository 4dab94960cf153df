-- What a reader of records answers.
use Rattle.std.specs.Prelude.{◌≡◌, ℕ, List, Option, Some, None, Result, Ok, Err}
use Rattle.field_reader.specs.declared.fault.ReadFault.{ReadFault}
use Rattle.field_reader.specs.declared.fault.ReadFault.TheVariants.{At, NoMemory}
use Rattle.field_reader.specs.Format.{fault_at}
use Rattle.seal_file.specs.Sealing.{sealed, IsDamage}
use Rattle.seal_file.specs.declared.damage.Damage.{Damage}
use Rattle.seal_file.specs.declared.damage.RecordFault.{RecordFault}
use Rattle.seal_file.specs.declared.damage.RecordFault.TheVariants.{Unsealed, NotCanonical, NoMemory as NoMemoryForFile}
use Rattle.sealed_record.specs.Table.{Table, spelling_of, file_of}

-- ---- a body

-- what each answer says of a body: it is the spelling of a written record, or it has its first fault there
abbrev pub ReadsBody : {A R : Type 0} → Table A R → List ℕ → Result A ReadFault → Type 0
ReadsBody table body (Ok a) = table.Canonical a × (body ≡ spelling_of table a)
ReadsBody table body (Err (At place)) = fault_at table.format body ≡ Some place
ReadsBody table body (Err NoMemory) = Unit {0}

-- The answer is this record, unless memory was missing.
abbrev pub IsBodyReadAs : {A : Type 0} → A → Result A ReadFault → Type 0
IsBodyReadAs a (Ok read) = read ≡ a
IsBodyReadAs a (Err (At place)) = ⊥
IsBodyReadAs a (Err NoMemory) = Unit {0}

-- The spelling of a written record is read as that record.
abbrev pub ReadsSpellings : {A R : Type 0} → Table A R → List ℕ → Result A ReadFault → Type 0
ReadsSpellings {A} table body result = (a : A) → table.Canonical a → body ≡ spelling_of table a → IsBodyReadAs a result

-- ---- a file

-- some body that the file seals has its first fault at this place
pub record HasFault {A R : Type 0} (kind : List ℕ) (table : Table A R) (file : List ℕ) (place : ℕ) : Type 0 where
  pub body : List ℕ
  pub seals : file ≡ sealed kind body
  pub fault : fault_at table.format body ≡ Some place

-- what each answer says of the bytes: they are the file of a written record; they are damaged; or they seal a body with
-- a fault
abbrev pub Reads : {A R : Type 0} → List ℕ → Table A R → List ℕ → Result A RecordFault → Type 0
Reads kind table bytes (Ok a) = table.Canonical a × (bytes ≡ file_of kind table a)
Reads kind table bytes (Err (Unsealed damage)) = IsDamage kind bytes damage
Reads kind table bytes (Err (NotCanonical place)) = HasFault kind table bytes place
Reads kind table bytes (Err NoMemoryForFile) = Unit {0}

-- The answer is this record, unless memory was missing.
abbrev pub IsReadAs : {A : Type 0} → A → Result A RecordFault → Type 0
IsReadAs a (Ok read) = read ≡ a
IsReadAs a (Err (Unsealed damage)) = ⊥
IsReadAs a (Err (NotCanonical place)) = ⊥
IsReadAs a (Err NoMemoryForFile) = Unit {0}

-- A record is answered where there is no fault, and else the fault's place, unless memory was missing.
abbrev pub TellsFault : {A : Type 0} → Option ℕ → Result A RecordFault → Type 0
TellsFault fault (Ok read) = fault ≡ None
TellsFault fault (Err (Unsealed damage)) = ⊥
TellsFault fault (Err (NotCanonical place)) = fault ≡ Some place
TellsFault fault (Err NoMemoryForFile) = Unit {0}

-- The file of a written record is read as that record.
abbrev pub ReadsFiles : {A R : Type 0} → List ℕ → Table A R → List ℕ → Result A RecordFault → Type 0
ReadsFiles {A} kind table bytes result = (a : A) → table.Canonical a → bytes ≡ file_of kind table a → IsReadAs a result

-- A damage is named, always.
abbrev pub NamesDamage : {A : Type 0} → List ℕ → List ℕ → Result A RecordFault → Type 0
NamesDamage kind bytes result = (damage : Damage) → IsDamage kind bytes damage → result ≡ Err (Unsealed damage)

-- A sealed body with no fault is read, and a fault is named.
abbrev pub NamesFault : {A R : Type 0} → List ℕ → Table A R → List ℕ → Result A RecordFault → Type 0
NamesFault kind table bytes result = (body : List ℕ) → bytes ≡ sealed kind body → TellsFault (fault_at table.format body) result
