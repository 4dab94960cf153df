-- How a call of a memory drive begins and ends.
use Rattle.std.specs.Prelude.{◌≡◌, ◌⊎◌, ◌+◌, min, Bool, true, false, Result, Ok, Err}
use Rattle.fault_base.specs.Counts.{Rose}
use Rattle.drive_base.specs.declared.fault.DriveFault.{DriveFault}
use Rattle.drive_base.specs.declared.fault.DriveFault.TheVariants.{Absent, Failed, NoMemory}
use Rattle.drive_memory.specs.Fuses.{is_spent, is_due, burned}
use Rattle.drive_memory.specs.declared.drive.MemDrive.{MemDrive}
use Rattle.drive_memory.specs.declared.faults.Gate.{Gate}
use Rattle.drive_memory.specs.declared.faults.Gate.TheVariants.{Open, Shut}

-- the drive with one failed call more
abbrev pub with_fault : MemDrive → MemDrive
with_fault drive = record drive { faults = min (drive.faults + 1) 18446744073709551615 }

-- the drive with one failed call more, which found no memory
abbrev pub with_want : MemDrive → MemDrive
with_want drive = record drive { faults = min (drive.faults + 1) 18446744073709551615; starved = min (drive.starved + 1) 18446744073709551615 }

-- a call was counted as failed
abbrev pub Faulted : MemDrive → MemDrive → Type 0
Faulted old new = Rose old.faults new.faults × (new ≡ with_fault old)

-- a call was counted as failed, and as one that found no memory
abbrev pub Wanted : MemDrive → MemDrive → Type 0
Wanted old new = Rose old.faults new.faults × Rose old.starved new.starved × (new ≡ with_want old)

-- a call meets a loss or a spent fuse, which fail it at once, or else moves the fuse
abbrev pub Meets : MemDrive → Gate → MemDrive → Type 0
Meets old (Open late) new = (old.lost ≡ false) × (is_spent old.fuse ≡ false) × (is_due old.fuse ≡ late) × (new ≡ record old { fuse = burned old.fuse })
Meets old Shut new = ((old.lost ≡ true) ⊎ ((old.lost ≡ false) × (is_spent old.fuse ≡ true) × (burned old.fuse ≡ old.fuse))) × Faulted old new

-- a call that was let through is failed for want of memory, or after it was done where the fuse was late, and else answers as it did
abbrev pub Settles : Bool → Result (Unit {0}) DriveFault → MemDrive → Result (Unit {0}) DriveFault → MemDrive → Type 0
Settles late (Err Failed) old result new = (result ≡ Err Failed) × Wanted old new
Settles true (Err Absent) old result new = (result ≡ Err Failed) × Faulted old new
Settles true (Err NoMemory) old result new = (result ≡ Err Failed) × Faulted old new
Settles true (Ok t) old result new = (result ≡ Err Failed) × Faulted old new
Settles false (Err Absent) old result new = (result ≡ Err Absent) × (new ≡ old)
Settles false (Err NoMemory) old result new = (result ≡ Err NoMemory) × (new ≡ old)
Settles false (Ok t) old result new = (result ≡ Ok t) × (new ≡ old)
