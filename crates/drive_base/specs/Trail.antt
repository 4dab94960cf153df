-- The calls that were made of a drive, and what each answered.
use Rattle.std.specs.Prelude.{◌≡◌, ℕ, List, [], ◌∷◌, ◌++◌, map, Result, Ok, Err, Vec, String, string_bytes}
use Rattle.drive_base.specs.declared.fault.DriveFault.{DriveFault}

-- a call and its answer; a name, a loose name and bytes are lists of bytes
pub data DriveCall : Type 0 where
  Size : List ℕ → Result ℕ DriveFault → DriveCall
  Read : List ℕ → ℕ → List ℕ → Result ℕ DriveFault → List ℕ → DriveCall
  Append : List ℕ → List ℕ → Result (Unit {0}) DriveFault → DriveCall
  Sync : List ℕ → Result (Unit {0}) DriveFault → DriveCall
  Rename : List ℕ → List ℕ → Result (Unit {0}) DriveFault → DriveCall
  Discard : List ℕ → Result (Unit {0}) DriveFault → DriveCall
  Remove : List ℕ → Result (Unit {0}) DriveFault → DriveCall
  Names : List ℕ → ℕ → Result (List (List ℕ)) DriveFault → DriveCall

-- the names that a listing answered
abbrev pub listed : {Y Z : Type 0} → Result (Vec (String Y) Z) DriveFault → Result (List (List ℕ)) DriveFault
listed (Ok names) = Ok (map string_bytes names.items)
listed (Err fault) = Err fault

-- the calls of a drive, and one more, the newest first
abbrev pub and_size : List DriveCall → List ℕ → Result ℕ DriveFault → List DriveCall
and_size calls name answer = Size name answer ∷ calls

abbrev pub and_read : List DriveCall → List ℕ → ℕ → List ℕ → Result ℕ DriveFault → List ℕ → List DriveCall
and_read calls name at before answer after = Read name at before answer after ∷ calls

abbrev pub and_append : List DriveCall → List ℕ → List ℕ → Result (Unit {0}) DriveFault → List DriveCall
and_append calls loose bytes answer = Append loose bytes answer ∷ calls

abbrev pub and_sync : List DriveCall → List ℕ → Result (Unit {0}) DriveFault → List DriveCall
and_sync calls loose answer = Sync loose answer ∷ calls

abbrev pub and_rename : List DriveCall → List ℕ → List ℕ → Result (Unit {0}) DriveFault → List DriveCall
and_rename calls loose name answer = Rename loose name answer ∷ calls

abbrev pub and_discard : List DriveCall → List ℕ → Result (Unit {0}) DriveFault → List DriveCall
and_discard calls loose answer = Discard loose answer ∷ calls

abbrev pub and_remove : List DriveCall → List ℕ → Result (Unit {0}) DriveFault → List DriveCall
and_remove calls name answer = Remove name answer ∷ calls

abbrev pub and_names : {Y Z : Type 0} → List DriveCall → List ℕ → ℕ → Result (Vec (String Y) Z) DriveFault → List DriveCall
and_names calls from most answer = Names from most (listed answer) ∷ calls

-- a call asks a drive for something, and changes nothing of it
abbrev pub IsReading : DriveCall → Type 0
IsReading (Size name answer) = Unit {0}
IsReading (Read name at before answer after) = Unit {0}
IsReading (Append loose bytes answer) = ⊥
IsReading (Sync loose answer) = ⊥
IsReading (Rename loose name answer) = ⊥
IsReading (Discard loose answer) = ⊥
IsReading (Remove name answer) = ⊥
IsReading (Names from most answer) = Unit {0}

abbrev pub AreReadings : List DriveCall → Type 0
AreReadings [] = Unit {0}
AreReadings (call ∷ calls) = IsReading call × AreReadings calls

-- the calls of a drive, and since then readings alone
pub record GrewByReadings (old new : List DriveCall) : Type 0 where
  pub more : List DriveCall
  pub readings : AreReadings more
  pub grown : new ≡ more ++ old
