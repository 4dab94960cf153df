-- What each call of a drive answers and leaves: the files before, the call, its result, the files after.
use Rattle.std.specs.Prelude.{◌≡◌, ◌⊎◌, ℕ, ◌-◌, min, true, false, IsTrue, List, [], ◌++◌, length, take, drop, Option, Some, None, Result, Ok, Err}
use Rattle.std.specs.Option.{option_map}
use Rattle.drive_base.specs.declared.fault.DriveFault.{DriveFault}
use Rattle.drive_base.specs.declared.fault.DriveFault.TheVariants.{Absent, Failed, NoMemory}
use Rattle.drive_base.specs.Files.{Files, LooseFile, with_loose, with_placed}

-- `size` answers the length of the shown file
abbrev pub SizeAnswers : Files → List ℕ → Result ℕ DriveFault → Files → Type 0
SizeAnswers old name (Ok n) new = (option_map length (old.shown name) ≡ Some n) × (new ≡ old)
SizeAnswers old name (Err Absent) new = (old.shown name ≡ None) × (new ≡ old)
SizeAnswers old name (Err Failed) new = new ≡ old
SizeAnswers old name (Err NoMemory) new = ⊥

-- n bytes of a file from a place on, as many as fit, are now at the front of a buffer, and its rest stays
pub record ReadBytes (bytes : List ℕ) (at : ℕ) (before : List ℕ) (n : ℕ) (after : List ℕ) : Type 0 where
  pub count : n ≡ min (length before) (length bytes - at)
  pub filled : after ≡ take n (drop at bytes) ++ drop n before

-- `read` fills the front of the buffer with the shown bytes from a place on
abbrev pub ReadAnswers : Files → List ℕ → ℕ → List ℕ → Result ℕ DriveFault → List ℕ → Files → Type 0
ReadAnswers old name at before (Ok n) after new = ((bytes : List ℕ) × (old.shown name ≡ Some bytes) × ReadBytes bytes at before n after) × (new ≡ old)
ReadAnswers old name at before (Err Absent) after new = (old.shown name ≡ None) × (new ≡ old)
ReadAnswers old name at before (Err Failed) after new = new ≡ old
ReadAnswers old name at before (Err NoMemory) after new = ⊥

-- the bytes of a loose file, none where it isn't there
abbrev pub loose_bytes : Option LooseFile → List ℕ
loose_bytes None = []
loose_bytes (Some file) = file.bytes

-- a failed call leaves anything under the loose name, and nothing else is changed
abbrev pub AnyLoose : Files → List ℕ → Files → Type 0
AnyLoose old loose new = (left : Option LooseFile) × (new ≡ with_loose old loose left)

-- `append` adds the bytes to the loose file, which it makes where there is none, and leaves it unsynced
abbrev pub AppendLeaves : {T : Type 0} → Files → List ℕ → List ℕ → Result T DriveFault → Files → Type 0
AppendLeaves old loose bytes (Ok _) new = new ≡ with_loose old loose (Some (record { bytes = loose_bytes (old.loose loose) ++ bytes; synced = false }))
AppendLeaves old loose bytes (Err Absent) new = ⊥
AppendLeaves old loose bytes (Err Failed) new = AnyLoose old loose new
AppendLeaves old loose bytes (Err NoMemory) new = ⊥

-- `sync` makes the loose file synced
abbrev pub SyncLeaves : {T : Type 0} → Files → List ℕ → Result T DriveFault → Files → Type 0
SyncLeaves old loose (Ok _) new = (file : LooseFile) × (old.loose loose ≡ Some file)
    × (new ≡ with_loose old loose (Some (record { bytes = file.bytes; synced = true })))
SyncLeaves old loose (Err Absent) new = (old.loose loose ≡ None) × (new ≡ old)
SyncLeaves old loose (Err Failed) new = AnyLoose old loose new
SyncLeaves old loose (Err NoMemory) new = ⊥

-- the loose file is gone, and its bytes, or any bytes where it wasn't synced, are in place under the name
pub record Placed (old : Files) (loose name : List ℕ) (new : Files) : Type 0 where
  pub file : LooseFile
  pub was : old.loose loose ≡ Some file
  pub bytes : List ℕ
  pub synced : IsTrue file.synced → bytes ≡ file.bytes
  pub is : new ≡ with_placed (with_loose old loose None) name (Some bytes)

-- a failed `rename` leaves the named files as they were or as it would make them, and anything under the loose name
abbrev pub PlacedOrNot : Files → List ℕ → List ℕ → Files → Type 0
PlacedOrNot old loose name new = AnyLoose old loose new ⊎ ((done : Files) × Placed old loose name done × AnyLoose done loose new)

-- `rename` puts the bytes of the loose file in place under the name
abbrev pub RenameLeaves : {T : Type 0} → Files → List ℕ → List ℕ → Result T DriveFault → Files → Type 0
RenameLeaves old loose name (Ok _) new = Placed old loose name new
RenameLeaves old loose name (Err Absent) new = (old.loose loose ≡ None) × (new ≡ old)
RenameLeaves old loose name (Err Failed) new = PlacedOrNot old loose name new
RenameLeaves old loose name (Err NoMemory) new = ⊥

-- `discard` takes the loose file away
abbrev pub DiscardLeaves : {T : Type 0} → Files → List ℕ → Result T DriveFault → Files → Type 0
DiscardLeaves old loose (Ok _) new = ((file : LooseFile) × (old.loose loose ≡ Some file)) × (new ≡ with_loose old loose None)
DiscardLeaves old loose (Err Absent) new = (old.loose loose ≡ None) × (new ≡ old)
DiscardLeaves old loose (Err Failed) new = AnyLoose old loose new
DiscardLeaves old loose (Err NoMemory) new = ⊥

-- `remove` takes a shown name out of the kept and the shown files
abbrev pub RemoveLeaves : {T : Type 0} → Files → List ℕ → Result T DriveFault → Files → Type 0
RemoveLeaves old name (Ok _) new = ((bytes : List ℕ) × (old.shown name ≡ Some bytes)) × (new ≡ with_placed old name None)
RemoveLeaves old name (Err Absent) new = (old.shown name ≡ None) × (new ≡ old)
RemoveLeaves old name (Err Failed) new = (new ≡ old) ⊎ (new ≡ with_placed old name None)
RemoveLeaves old name (Err NoMemory) new = ⊥
