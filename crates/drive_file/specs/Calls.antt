-- When the calls of a drive over a folder answer what, by the names that it knows, and how they change these.
use Rattle.std.specs.Prelude.{◌≡◌, ◌⊎◌, ℕ, true, false, List, map, Some, None, IsSome, Result, Ok, Err, Vec, String, string_bytes}
use Rattle.drive_base.specs.declared.fault.DriveFault.{DriveFault}
use Rattle.drive_base.specs.declared.fault.DriveFault.TheVariants.{Absent, Failed, NoMemory}
use Rattle.drive_base.specs.Files.{with_name}
use Rattle.drive_base.specs.Names.{ListsShown}
use Rattle.drive_file.specs.FileDrive.{known, is_lost}
use Rattle.drive_file.specs.declared.drive.FileDrive.{FileDrive}

module _ {F : Type 0} where
  -- the drive knows the names that it knew, and is lost where it was
  pub record KnowsTheSame (old new : FileDrive F) : Type 0 where
    pub names : known new ≡ known old
    pub loss : is_lost new ≡ is_lost old

  -- a call on a file in place is `Absent` exactly where the drive isn't lost and doesn't know the name
  abbrev pub LooksUp : {T : Type 0} → FileDrive F → List ℕ → Result T DriveFault → FileDrive F → Type 0
  LooksUp old name (Ok _) new = (is_lost old ≡ false) × IsSome (known old name) × KnowsTheSame old new
  LooksUp old name (Err Absent) new = (is_lost old ≡ false) × (known old name ≡ None) × KnowsTheSame old new
  LooksUp old name (Err Failed) new = ((is_lost old ≡ true) ⊎ IsSome (known old name)) × KnowsTheSame old new
  LooksUp old name (Err NoMemory) new = ⊥

  -- a call on a loose file does nothing on a lost drive, and leaves the names
  abbrev pub WritesLoose : {T : Type 0} → FileDrive F → Result T DriveFault → FileDrive F → Type 0
  WritesLoose old (Ok _) new = (is_lost old ≡ false) × KnowsTheSame old new
  WritesLoose old (Err Absent) new = (is_lost old ≡ false) × KnowsTheSame old new
  WritesLoose old (Err Failed) new = KnowsTheSame old new
  WritesLoose old (Err NoMemory) new = ⊥

  -- `sync` does so too, but where it fails the drive may be lost
  abbrev pub SyncsLoose : {T : Type 0} → FileDrive F → Result T DriveFault → FileDrive F → Type 0
  SyncsLoose old (Ok _) new = (is_lost old ≡ false) × KnowsTheSame old new
  SyncsLoose old (Err Absent) new = (is_lost old ≡ false) × KnowsTheSame old new
  SyncsLoose old (Err Failed) new = (is_lost new ≡ true) ⊎ KnowsTheSame old new
  SyncsLoose old (Err NoMemory) new = ⊥

  -- `rename` adds the name; where it fails the drive is lost, or knows the names that it knew
  abbrev pub PutsInPlace : {T : Type 0} → FileDrive F → List ℕ → Result T DriveFault → FileDrive F → Type 0
  PutsInPlace old name (Ok t) new = (is_lost old ≡ false) × (is_lost new ≡ false) × (known new ≡ with_name (known old) name (Some tt))
  PutsInPlace old name (Err Absent) new = (is_lost old ≡ false) × KnowsTheSame old new
  PutsInPlace old name (Err Failed) new = (is_lost new ≡ true) ⊎ KnowsTheSame old new
  PutsInPlace old name (Err NoMemory) new = ⊥

  -- `remove` takes a known name out, and is `Absent` exactly where the drive isn't lost and doesn't know the name
  abbrev pub TakesOut : {T : Type 0} → FileDrive F → List ℕ → Result T DriveFault → FileDrive F → Type 0
  TakesOut old name (Ok t) new = (is_lost old ≡ false) × (is_lost new ≡ false) × IsSome (known old name) × (known new ≡ with_name (known old) name None)
  TakesOut old name (Err Absent) new = (is_lost old ≡ false) × (known old name ≡ None) × KnowsTheSame old new
  TakesOut old name (Err Failed) new = ((is_lost old ≡ true) ⊎ IsSome (known old name)) × KnowsTheSame old new
  TakesOut old name (Err NoMemory) new = ⊥

  -- `names` lists the known names, and fails exactly where the drive is lost
  abbrev pub ListsKnown : {Y Z : Type 0} → FileDrive F → List ℕ → ℕ → ℕ → Result (Vec (String Y) Z) DriveFault → FileDrive F → Type 0
  ListsKnown old from most longest (Ok names) new =
      (is_lost old ≡ false) × ListsShown (known old) from most longest (map string_bytes names.items) × KnowsTheSame old new
  ListsKnown old from most longest (Err Absent) new = ⊥
  ListsKnown old from most longest (Err Failed) new = (is_lost old ≡ true) × KnowsTheSame old new
  ListsKnown old from most longest (Err NoMemory) new = (is_lost old ≡ false) × KnowsTheSame old new
