-- What a step of a reading does.
use Rattle.std.specs.Prelude.{◌≡◌, ◌⊎◌, ◌-◌, ◌<◌, ℕ, true, List, Result, Ok, Err, if◌then◌else◌, length}
use Rattle.desk_base.specs.Telling.{Telling}
use Rattle.desk_base.specs.Telling.Telling.{Head as TheHead, Piece as PieceTold}
use Rattle.drive_base.specs.declared.drive.Drive.{Ghosts}
use Rattle.get_read.specs.Readers.{Steps}
use Rattle.get_read.specs.declared.faults.BodyFault.{BodyFault}
use Rattle.get_read.specs.declared.faults.BodyFault.TheVariants.{ShardQuorum}
use Rattle.get_read.specs.declared.reader.ReadStep.{ReadStep}
use Rattle.get_read.specs.declared.reader.ReadStep.TheVariants.{Done, More, Piece}
use Rattle.object_ops.specs.declared.reading.Reading.{Reading}
use Rattle.object_ops.specs.declared.reading.Stepped.{Stepped}
use Rattle.object_ops.specs.declared.reading.Stepped.TheVariants.{Gives, Goes, LacksMemory, Refused}

-- it reads on for the same span
pub record StaysReading (old new : Reading) : Type 0 where
  pub asked_is : new.reader.asked ≡ old.reader.asked
  pub reply_is : new.reply ≡ old.reply
  pub span_is : new.span ≡ old.span
  pub left_is : new.left ≡ old.left
  pub told_is : new.told ≡ old.told

-- it may make fewer calls, where it goes on
abbrev pub StepsFall : Stepped → ℕ → ℕ → Type 0
StepsFall Goes old new = new < old
StepsFall Gives old new = new < old
StepsFall (Refused whys) old new = Unit {0}
StepsFall LacksMemory old new = Unit {0}

-- what it did by what its reader answered
abbrev pub IsStepped : Result ReadStep BodyFault → Stepped → Type 0
IsStepped (Ok More) stepped = stepped ≡ Goes
IsStepped (Ok Piece) stepped = stepped ≡ Gives
IsStepped (Ok Done) stepped = stepped ≡ Goes
IsStepped (Err fault) Goes = ⊥
IsStepped (Err fault) Gives = ⊥
IsStepped (Err fault) (Refused whys) = fault ≡ ShardQuorum whys
IsStepped (Err fault) LacksMemory = Unit {0}

module _ {D : Type 0} (ghosts : Ghosts D) where
  -- its reader stepped, or for want of memory nothing was done
  abbrev pub ReadsSo : Reading → Reading → Stepped → List D → List D → Type 0
  ReadsSo old new stepped before after = ((stepped ≡ LacksMemory) × (after ≡ before))
      ⊎ ((answer : Result ReadStep BodyFault) × Steps ghosts old.reader new.reader answer before after × IsStepped answer stepped)

-- what is told next: the head, or then the piece that is at hand
abbrev pub next_telling : Reading → Telling
next_telling reading = if reading.told then PieceTold reading.reader.piece.items else TheHead reading.reply

-- the head or the piece was told
pub record TellsNext (old new : Reading) : Type 0 where
  pub reader_is : new.reader ≡ old.reader
  pub reply_is : new.reply ≡ old.reply
  pub span_is : new.span ≡ old.span
  pub calls_is : new.calls ≡ old.calls
  pub told_is : new.told ≡ true
  pub left_is : new.left ≡ (if old.told then old.left - length old.reader.piece.items else old.left)
