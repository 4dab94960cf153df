-- What each call of a drive answers and leaves, as one relation between the drive before and after.
use Rattle.std.specs.Prelude.{◌≡◌, ℕ, IsTrue, List, ◌∷◌, Result, Ok, Err}
use Rattle.drive_base.specs.declared.drive.TheConstants.{LONGEST_NAME}
use Rattle.drive_base.specs.declared.fault.DriveFault.{DriveFault}
use Rattle.drive_base.specs.declared.fault.DriveFault.TheVariants.{Absent, Failed, NoMemory}
use Rattle.drive_base.specs.Faults.{Counts, CountsAppend, CountsNames}
use Rattle.drive_base.specs.Files.{Files}
use Rattle.drive_base.specs.Names.{ListsShown}
use Rattle.drive_base.specs.Leaves.{SizeAnswers, ReadAnswers, AppendLeaves, SyncLeaves, RenameLeaves, DiscardLeaves, RemoveLeaves}
use Rattle.drive_base.specs.Trail.{DriveCall, Size, Read, Append, Sync, Rename, Discard, Remove, Names}
use Rattle.drive_base.specs.View.{DriveView}

-- `names` answers the first shown names, and changes nothing (`NamesAnswers`, of the bytes of the names alone)
abbrev pub NamesShown : Files → List ℕ → ℕ → Result (List (List ℕ)) DriveFault → Files → Type 0
NamesShown old from most (Ok names) new = ListsShown old.shown from most LONGEST_NAME names × (new ≡ old)
NamesShown old from most (Err Absent) new = ⊥
NamesShown old from most (Err Failed) new = new ≡ old
NamesShown old from most (Err NoMemory) new = new ≡ old

-- what the call leaves of the files of a drive that tells them
abbrev pub FilesAfter : DriveCall → DriveView → DriveView → Type 0
FilesAfter (Size name answer) old new = SizeAnswers old.files name answer new.files
FilesAfter (Read name at before answer after) old new = ReadAnswers old.files name at before answer after new.files
FilesAfter (Append loose bytes answer) old new = AppendLeaves old.files loose bytes answer new.files
FilesAfter (Sync loose answer) old new = SyncLeaves old.files loose answer new.files
FilesAfter (Rename loose name answer) old new = RenameLeaves old.files loose name answer new.files
FilesAfter (Discard loose answer) old new = DiscardLeaves old.files loose answer new.files
FilesAfter (Remove name answer) old new = RemoveLeaves old.files name answer new.files
FilesAfter (Names from most answer) old new = NamesShown old.files from most answer new.files

-- how the call counts
abbrev pub CountAfter : DriveCall → ℕ → ℕ → Type 0
CountAfter (Size name answer) old new = Counts answer old new
CountAfter (Read name at before answer after) old new = Counts answer old new
CountAfter (Append loose bytes answer) old new = CountsAppend answer old new
CountAfter (Sync loose answer) old new = Counts answer old new
CountAfter (Rename loose name answer) old new = Counts answer old new
CountAfter (Discard loose answer) old new = Counts answer old new
CountAfter (Remove name answer) old new = Counts answer old new
CountAfter (Names from most answer) old new = CountsNames answer old new

-- one call of a drive: what it answers, what it leaves, and how it counts
pub record DriveModel (call : DriveCall) (old new : DriveView) : Type 0 where
  pub files : IsTrue old.tells → FilesAfter call old new
  pub tells : new.tells ≡ old.tells
  pub count : CountAfter call old.count new.count
  pub trail : new.trail ≡ call ∷ old.trail
