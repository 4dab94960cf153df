-- What writing a file leaves on a drive, call by call and whole, and why it did not succeed.
use Rattle.std.specs.Prelude.{◌≡◌, ◌⊎◌, ℕ, true, false, List, ◌++◌, bytes_eq, Some, None, Result, Ok, Err}
use Rattle.call_types.specs.declared.why.FileKind.{FileKind}
use Rattle.call_types.specs.declared.why.Why.{Why}
use Rattle.call_types.specs.declared.why.Why.TheVariants.{Good, Failed, Damaged, Behind, Lacks}
use Rattle.fault_base.specs.Counts.{Rose}
use Rattle.drive_base.specs.Files.{Files, LooseFile, with_name, with_loose, with_placed}
use Rattle.drive_base.specs.Leaves.{Placed, loose_bytes}

-- a loose file that is synced
abbrev pub synced_file : List ℕ → LooseFile
synced_file bytes = record { bytes = bytes; synced = true }

-- there is a loose file of this name
abbrev pub HasLoose : Files → List ℕ → Type 0
HasLoose files loose = (file : LooseFile) × (files.loose loose ≡ Some file)

-- a file is shown under this name
abbrev pub HasShown : Files → List ℕ → Type 0
HasShown files name = (bytes : List ℕ) × (files.shown name ≡ Some bytes)

-- nothing is changed but what is under a loose name
pub record Touches (loose : List ℕ) (old new : Files) : Type 0 where
  pub kept : new.kept ≡ old.kept
  pub shown : new.shown ≡ old.shown
  pub others : (other : List ℕ) → bytes_eq loose other ≡ false → new.loose other ≡ old.loose other

-- bytes were added to a loose file, which is unsynced
abbrev pub Appended : List ℕ → List ℕ → Files → Files → Type 0
Appended loose bytes old new = new ≡ with_loose old loose (Some (record { bytes = loose_bytes (old.loose loose) ++ bytes; synced = false }))

-- a loose file is synced
pub record Synced (loose : List ℕ) (old new : Files) : Type 0 where
  pub file : LooseFile
  pub was : old.loose loose ≡ Some file
  pub is : new ≡ with_loose old loose (Some (synced_file file.bytes))

-- a loose file is gone
pub record Discarded (loose : List ℕ) (old new : Files) : Type 0 where
  pub was : HasLoose old loose
  pub is : new ≡ with_loose old loose None

-- the file of a name is gone
pub record Removed (name : List ℕ) (old new : Files) : Type 0 where
  pub was : HasShown old name
  pub is : new ≡ with_placed old name None

-- the file of a name is gone, or nothing is changed
abbrev pub RemovedOrNot : List ℕ → Files → Files → Type 0
RemovedOrNot name old new = (new ≡ old) ⊎ (new ≡ with_placed old name None)

-- bytes were added to a loose file, and it is synced
pub record Written (loose bytes : List ℕ) (old new : Files) : Type 0 where
  pub touches : Touches loose old new
  pub is : new.loose loose ≡ Some (synced_file (loose_bytes (old.loose loose) ++ bytes))

-- a loose file was put in place or not, and nothing else is changed but what is under its name
abbrev pub PlacedOrTouched : List ℕ → List ℕ → Files → Files → Type 0
PlacedOrTouched loose name old new = Touches loose old new ⊎ ((done : Files) × Placed old loose name done × Touches loose done new)

-- a file is in place under a name, and nothing else is changed but what is under a loose name
pub record IsInPlace (loose name bytes : List ℕ) (old new : Files) : Type 0 where
  pub kept : new.kept ≡ with_name old.kept name (Some bytes)
  pub shown : new.shown ≡ with_name old.shown name (Some bytes)
  pub others : (other : List ℕ) → bytes_eq loose other ≡ false → new.loose other ≡ old.loose other

-- what a write of a file leaves: the file in place, or, where it did not succeed, that or nothing
abbrev pub WriteLeaves : Why → List ℕ → List ℕ → List ℕ → Files → Files → Type 0
WriteLeaves Good loose name bytes old new = IsInPlace loose name bytes old new
WriteLeaves (Failed _ _) loose name bytes old new = Touches loose old new ⊎ IsInPlace loose name bytes old new
WriteLeaves (Damaged _) loose name bytes old new = ⊥
WriteLeaves (Behind _) loose name bytes old new = ⊥
WriteLeaves (Lacks _) loose name bytes old new = Touches loose old new ⊎ IsInPlace loose name bytes old new

-- why a step on a file of this kind did not succeed: its count of faults rose, or what it needs is not there, and no count rose
abbrev pub Stopped : FileKind → Type 0 → Why → ℕ → ℕ → Type 0
Stopped kind there Good old new = ⊥
Stopped kind there (Failed before after) old new = (before ≡ old) × (after ≡ new) × Rose old new
Stopped kind there (Damaged _) old new = ⊥
Stopped kind there (Behind _) old new = ⊥
Stopped kind there (Lacks lacked) old new = (lacked ≡ kind) × (there → ⊥) × (new ≡ old)

-- the faults of a step on a file of this kind
abbrev pub StepCause : {T : Type 0} → FileKind → Type 0 → Result T Why → ℕ → ℕ → Type 0
StepCause kind there (Ok _) old new = new ≡ old
StepCause kind there (Err why) old new = Stopped kind there why old new

-- a step that lacked what it needs changed nothing
abbrev pub StaysIfLacking : {T : Type 0} → Result T Why → Files → Files → Type 0
StaysIfLacking (Ok _) old new = Unit {0}
StaysIfLacking (Err Good) old new = Unit {0}
StaysIfLacking (Err (Failed _ _)) old new = Unit {0}
StaysIfLacking (Err (Damaged _)) old new = Unit {0}
StaysIfLacking (Err (Behind _)) old new = Unit {0}
StaysIfLacking (Err (Lacks _)) old new = new ≡ old

-- the faults of a whole write
abbrev pub WriteCause : FileKind → Type 0 → Why → ℕ → ℕ → Type 0
WriteCause kind there Good old new = new ≡ old
WriteCause kind there (Failed before after) old new = (before ≡ old) × (after ≡ new) × Rose old new
WriteCause kind there (Damaged _) old new = ⊥
WriteCause kind there (Behind _) old new = ⊥
WriteCause kind there (Lacks lacked) old new = (lacked ≡ kind) × (there → ⊥) × (new ≡ old)
