-- Why a drive was of no use to a section that asked something of it: a letter, like those of a stage, by what its calls came to in the section.
use Rattle.std.specs.Prelude.{ℕ, IsTrue}
use Rattle.std.specs.Int.{IsBitSet}
use Rattle.call_types.specs.declared.why.FileKind.{FileKind}
use Rattle.call_types.specs.declared.why.FileKind.TheVariants.{Format}
use Rattle.call_types.specs.declared.why.Why.{Why}
use Rattle.call_types.specs.declared.why.Why.TheVariants.{Behind, Damaged, Failed, Good, Lacks}
use Rattle.drive_base.specs.Files.{Files}
use Rattle.drive_base.specs.View.{DriveView}
use Rattle.file_access.specs.Reading.{FailedWhile}

-- what a section may say of drives: that the file which it asked for is bad, of a drive that tells, and that a file of this kind is lacking
pub record Complaints : Type 1 where
  pub is_bad : Files → Type 0
  pub is_lacking : FileKind → DriveView → Type 0

-- why a drive did what was asked of it, or didn't: it is in use; or its count of faults rose; or what it shows is bad; or a file is lacking; or it is out
abbrev pub DriveLetter : Complaints → ℕ → ℕ → Why → DriveView → DriveView → Type 0
DriveLetter may out k Good old new = IsBitSet out k → ⊥
DriveLetter may out k (Failed before after) old new = (IsBitSet out k → ⊥) × FailedWhile before after old.count new.count
DriveLetter may out k (Damaged damage) old new = (IsBitSet out k → ⊥) × (IsTrue old.tells → may.is_bad old.files)
DriveLetter may out k (Behind ballot) old new = ⊥
DriveLetter may out k (Lacks Format) old new = IsBitSet out k
DriveLetter may out k (Lacks kind) old new = (IsBitSet out k → ⊥) × may.is_lacking kind old
