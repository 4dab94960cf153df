-- What a drive over a folder knows without asking the system.
use Rattle.std.specs.Prelude.{Bool, List, string_bytes}
use Rattle.std.specs.BTreeMap.{get_by_text}
use Rattle.drive_base.specs.Files.{Named}
use Rattle.drive_base.specs.Trail.{DriveCall}
use Rattle.drive_file.specs.Asks.{FolderView}
use Rattle.drive_file.specs.declared.folder.Folder.{Ghosts}
use Rattle.drive_file.specs.declared.names.NameSet.{NameSet}
use Rattle.drive_file.specs.declared.drive.FileDrive.{FileDrive}

-- the names of a set, as a function from their bytes
abbrev pub names_in : NameSet → Named (Unit {0})
names_in set = get_by_text set.names

-- the names of the files that the drive has in place
abbrev pub known : {F : Type 0} → FileDrive F → Named (Unit {0})
known drive = names_in drive.names

-- every call of the drive fails
abbrev pub is_lost : {F : Type 0} → FileDrive F → Bool
is_lost drive = drive.lost

-- the calls that were made of the drive, the newest first
abbrev pub calls_of : {F : Type 0} → FileDrive F → List DriveCall
calls_of drive = drive.trail

-- what is seen of the drive and of its folder
abbrev pub folder_view : {F : Type 0} → Ghosts F → FileDrive F → FolderView
folder_view ghosts drive =
    record { folder = string_bytes drive.folder; loose = string_bytes drive.loose; lost = drive.lost; calls = ghosts.calls drive.system }
