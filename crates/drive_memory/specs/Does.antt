-- What the calls that change files do where no fault comes but want of memory, which they answer by `Failed`.
use Rattle.std.specs.Prelude.{◌≡◌, ℕ, List, length, replicate, Some, None, Result, Ok, Err, if◌then◌else◌}
use Rattle.drive_base.specs.declared.fault.DriveFault.{DriveFault}
use Rattle.drive_base.specs.declared.fault.DriveFault.TheVariants.{Absent, Failed, NoMemory}
use Rattle.drive_base.specs.Files.{Files, LooseFile, with_loose, with_placed}
use Rattle.drive_base.specs.Leaves.{AppendLeaves, SyncLeaves, DiscardLeaves, RemoveLeaves}

-- `append` changes nothing where it finds no memory
abbrev pub AppendDoes : Files → List ℕ → List ℕ → Result (Unit {0}) DriveFault → Files → Type 0
AppendDoes old loose bytes (Ok t) new = AppendLeaves old loose bytes (Ok t) new
AppendDoes old loose bytes (Err Absent) new = ⊥
AppendDoes old loose bytes (Err Failed) new = new ≡ old
AppendDoes old loose bytes (Err NoMemory) new = ⊥

-- `sync` takes no memory
abbrev pub SyncDoes : Files → List ℕ → Result (Unit {0}) DriveFault → Files → Type 0
SyncDoes old loose (Ok t) new = SyncLeaves old loose (Ok t) new
SyncDoes old loose (Err Absent) new = (old.loose loose ≡ None) × (new ≡ old)
SyncDoes old loose (Err Failed) new = ⊥
SyncDoes old loose (Err NoMemory) new = ⊥

-- the bytes of a synced file, else as many zeros
abbrev pub placed_bytes : LooseFile → List ℕ
placed_bytes file = if file.synced then file.bytes else replicate (length file.bytes) 0

-- the files after a loose file was put in place under a name
abbrev pub with_renamed : Files → List ℕ → List ℕ → LooseFile → Files
with_renamed files loose name file = with_placed (with_loose files loose None) name (Some (placed_bytes file))

-- `rename` puts the bytes of a synced file in place, and zeros for one that isn't synced; where it finds no memory the loose file is gone
abbrev pub RenameDoes : Files → List ℕ → List ℕ → Result (Unit {0}) DriveFault → Files → Type 0
RenameDoes old loose name (Ok t) new = (file : LooseFile) × (old.loose loose ≡ Some file) × (new ≡ with_renamed old loose name file)
RenameDoes old loose name (Err Absent) new = (old.loose loose ≡ None) × (new ≡ old)
RenameDoes old loose name (Err Failed) new = ((file : LooseFile) × (old.loose loose ≡ Some file)) × (new ≡ with_loose old loose None)
RenameDoes old loose name (Err NoMemory) new = ⊥

-- `discard` takes no memory
abbrev pub DiscardDoes : Files → List ℕ → Result (Unit {0}) DriveFault → Files → Type 0
DiscardDoes old loose (Ok t) new = DiscardLeaves old loose (Ok t) new
DiscardDoes old loose (Err Absent) new = (old.loose loose ≡ None) × (new ≡ old)
DiscardDoes old loose (Err Failed) new = ⊥
DiscardDoes old loose (Err NoMemory) new = ⊥

-- `remove` takes no memory
abbrev pub RemoveDoes : Files → List ℕ → Result (Unit {0}) DriveFault → Files → Type 0
RemoveDoes old name (Ok t) new = RemoveLeaves old name (Ok t) new
RemoveDoes old name (Err Absent) new = (old.shown name ≡ None) × (new ≡ old)
RemoveDoes old name (Err Failed) new = ⊥
RemoveDoes old name (Err NoMemory) new = ⊥
