-- What a memory drive means.
use Rattle.std.specs.Prelude.{ℕ, Bool, List, Option}
use Rattle.drive_base.specs.Files.{Files}
use Rattle.drive_base.specs.Trail.{DriveCall}
use Rattle.drive_memory.specs.Contents.{held_files}
use Rattle.drive_memory.specs.declared.drive.MemDrive.{MemDrive}
use Rattle.drive_memory.specs.declared.fuse.Fuse.{Fuse}

-- the files of the drive
abbrev pub files_of : MemDrive → Files
files_of drive = held_files drive.contents

-- how many calls failed
abbrev pub fault_count : MemDrive → ℕ
fault_count drive = drive.faults

-- how many calls found no memory
abbrev pub starved_count : MemDrive → ℕ
starved_count drive = drive.starved

-- whether the drive is lost, and every call fails
abbrev pub is_lost : MemDrive → Bool
is_lost drive = drive.lost

-- the fuse as it stands: how many calls are still let through, and whether the next one after these takes effect
abbrev pub fuse_of : MemDrive → Option Fuse
fuse_of drive = drive.fuse

-- the calls that were made of the drive, the newest first
abbrev pub calls_of : MemDrive → List DriveCall
calls_of drive = drive.trail
