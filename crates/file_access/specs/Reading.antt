-- What reading a file of a drive gives, and why it gives nothing.
use Rattle.std.specs.Prelude.{◌≡◌, ℕ, ◌+◌, ◌<◌, ◌≤◌, min, max, Bool, IsTrue, List, length, take, drop, Some, None, Result, Ok, Err}
use Rattle.std.specs.Option.{option_map}
use Rattle.seal_file.specs.declared.damage.Damage.{Damage}
use Rattle.seal_file.specs.declared.damage.Damage.TheVariants.{Short, Digest, Kind, Spelling, Long}
use Rattle.call_types.specs.declared.why.FileKind.{FileKind}
use Rattle.call_types.specs.declared.why.Why.{Why}
use Rattle.call_types.specs.declared.why.Why.TheVariants.{Good, Failed, Damaged, Behind, Lacks}
use Rattle.fault_base.specs.Counts.{Rose}
use Rattle.drive_base.specs.Files.{Files}
use Rattle.file_access.specs.declared.fault.FetchFault.{FetchFault}
use Rattle.file_access.specs.declared.fault.FetchFault.TheVariants.{Because, NoMemory}

-- the shown file of this name has so many bytes
abbrev pub HasLength : Files → List ℕ → ℕ → Type 0
HasLength files name n = option_map length (files.shown name) ≡ Some n

-- these are bytes of the shown file of this name, from a place on
abbrev pub IsPieceAt : Files → List ℕ → ℕ → List ℕ → Type 0
IsPieceAt files name at bytes = (file : List ℕ) × (files.shown name ≡ Some file) × (bytes ≡ take (length bytes) (drop at file))

-- these are all bytes of the shown file of this name
abbrev pub IsWhole : Files → List ℕ → List ℕ → Type 0
IsWhole files name bytes = files.shown name ≡ Some bytes

-- what is wrong with a file that is never found damaged
abbrev pub NeverDamaged : List ℕ → Damage → Type 0
NeverDamaged file damage = ⊥

-- a file ends before so many bytes from a place on, and it is told where the reading ended: the file's end, or that place where the file ends
-- before it, as far as a `u64` tells it
abbrev pub IsCutShort : ℕ → ℕ → List ℕ → Damage → Type 0
IsCutShort at long file (Short n) = (length file < at + long) × (n ≡ min (max at (length file)) 18446744073709551615)
IsCutShort at long file (Digest _ _) = ⊥
IsCutShort at long file (Kind _) = ⊥
IsCutShort at long file (Spelling _) = ⊥
IsCutShort at long file (Long _) = ⊥

-- a file ends before so many bytes from a place on, and its length is told
abbrev pub EndsBefore : ℕ → ℕ → List ℕ → Damage → Type 0
EndsBefore at long file (Short n) = (length file < at + long) × (n ≡ length file)
EndsBefore at long file (Digest _ _) = ⊥
EndsBefore at long file (Kind _) = ⊥
EndsBefore at long file (Spelling _) = ⊥
EndsBefore at long file (Long _) = ⊥

-- a file is longer than any lawful one, which has at most so many bytes, and its length is told
abbrev pub IsTooLong : ℕ → List ℕ → Damage → Type 0
IsTooLong most file (Short _) = ⊥
IsTooLong most file (Digest _ _) = ⊥
IsTooLong most file (Kind _) = ⊥
IsTooLong most file (Spelling _) = ⊥
IsTooLong most file (Long n) = (most < n) × (n ≡ length file)

-- the count of faults rose from one number to another, within a call that it stood so before and after
abbrev pub FailedWhile : ℕ → ℕ → ℕ → ℕ → Type 0
FailedWhile before after old new = (old ≤ before) × Rose before after × (after ≤ new)

-- why a drive gave nothing of the file of a kind and a name: its count of faults rose, or its file is damaged in some
-- way, or is not there and no count rose
abbrev pub IsWhyNot : FileKind → List ℕ → (List ℕ → Damage → Type 0) → Why → Bool → Files → ℕ → ℕ → Type 0
IsWhyNot kind name IsSo Good tells files old new = ⊥
IsWhyNot kind name IsSo (Failed before after) tells files old new = FailedWhile before after old new
IsWhyNot kind name IsSo (Damaged damage) tells files old new = (new ≡ old)
    × (IsTrue tells → (file : List ℕ) × (files.shown name ≡ Some file) × IsSo file damage)
IsWhyNot kind name IsSo (Behind _) tells files old new = ⊥
IsWhyNot kind name IsSo (Lacks lacked) tells files old new = (lacked ≡ kind) × (new ≡ old) × (IsTrue tells → files.shown name ≡ None)

-- the same, or there was not enough memory, and no count rose
abbrev pub IsRefusedBy : FileKind → List ℕ → (List ℕ → Damage → Type 0) → FetchFault → Bool → Files → ℕ → ℕ → Type 0
IsRefusedBy kind name IsSo (Because why) tells files old new = IsWhyNot kind name IsSo why tells files old new
IsRefusedBy kind name IsSo NoMemory tells files old new = new ≡ old

-- damage that no call for a length tells
abbrev pub NoDamage : Damage → Type 0
NoDamage damage = ⊥

-- a file that ends too early
abbrev pub IsShort : Damage → Type 0
IsShort (Short _) = Unit {0}
IsShort other = ⊥

-- what a single call tells of its failure is the count before it and after it, and damage that it tells is of a kind
abbrev pub FailedOnce : (Damage → Type 0) → Why → ℕ → ℕ → Type 0
FailedOnce IsOf (Failed before after) old new = (before ≡ old) × (after ≡ new)
FailedOnce IsOf (Damaged damage) old new = IsOf damage
FailedOnce IsOf other old new = Unit {0}

-- and so does a fetch by one call
abbrev pub FetchFailedOnce : (Damage → Type 0) → FetchFault → ℕ → ℕ → Type 0
FetchFailedOnce IsOf (Because why) old new = FailedOnce IsOf why old new
FetchFailedOnce IsOf NoMemory old new = Unit {0}

-- for want of memory no call was made
abbrev pub IdleWithout : {T D : Type 0} → Result T FetchFault → D → D → Type 0
IdleWithout (Ok _) old new = Unit {0}
IdleWithout (Err (Because _)) old new = Unit {0}
IdleWithout (Err NoMemory) old new = new ≡ old
