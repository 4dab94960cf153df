-- What a folder of the system tells, and what the system's answers are to a drive.
use Rattle.std.specs.Prelude.{List, Result, Ok, Err}
use Rattle.std.specs.IoError.{error_kind}
use Rattle.std.specs.declared.io.Error.{Error}
use Rattle.std.specs.declared.io.ErrorKind.{ErrorKind}
use Rattle.std.specs.declared.io.ErrorKind.TheVariants as kind
use Rattle.drive_base.specs.declared.fault.DriveFault.{DriveFault}
use Rattle.drive_base.specs.declared.fault.DriveFault.TheVariants as fault
use Rattle.drive_file.specs.Folder.{FolderCall}
use Rattle.drive_file.specs.declared.system.SystemFolder.{SystemFolder}

-- the calls that were made of the folder, the newest first
abbrev pub asked_of : {R : Type 0} → SystemFolder R → List FolderCall
asked_of folder = folder.trail

-- what an error of the system is to a drive
abbrev pub fault_of : ErrorKind → DriveFault
fault_of kind.NotFound = fault.Absent
fault_of kind.OutOfMemory = fault.NoMemory
fault_of _ = fault.Failed

-- what an answer of the system is to a drive
abbrev pub told : {T : Type 0} → Result T Error → Result T DriveFault
told (Ok value) = Ok value
told (Err error) = Err (fault_of (error_kind error))
