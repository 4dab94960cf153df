-- A call of a drive as it was made, and what its answer tells.
use Rattle.std.specs.Prelude.{◌≡◌, ◌⊎◌, ℕ, ◌+◌, ◌<◌, min, List, [], length, slice_index, Result, Ok, Err}
use Rattle.drive_base.specs.DriveModel.{DriveModel}
use Rattle.drive_base.specs.View.{DriveView, GoesOn, OnlyRead}
use Rattle.drive_base.specs.declared.fault.DriveFault.{DriveFault}
use Rattle.drive_base.specs.declared.fault.DriveFault.TheVariants.{Absent, Failed, NoMemory}
use Rattle.drive_base.specs.Trail.{DriveCall, IsReading, Size, Read, Append, Sync, Rename, Discard, Remove, Names}

-- a call with its answer, and the drive's counts of faults before and after it
pub record MadeCall : Type 0 where
  pub call : DriveCall
  pub before : ℕ
  pub after : ℕ

-- what a call has in its buffer at its end
abbrev pub bytes_read : DriveCall → List ℕ
bytes_read (Size name answer) = []
bytes_read (Read name at into answer filled) = filled
bytes_read (Append loose bytes answer) = []
bytes_read (Sync loose answer) = []
bytes_read (Rename loose name answer) = []
bytes_read (Discard loose answer) = []
bytes_read (Remove name answer) = []
bytes_read (Names from most answer) = []

-- it was made of a drive, which was so before it and after it
pub record WasMade (made : MadeCall) (old new : DriveView) : Type 0 where
  pub model : DriveModel made.call old new
  pub before : made.before ≡ old.count
  pub after : made.after ≡ new.count
  pub bytes : (place : ℕ) → slice_index (bytes_read made.call) place < 256

-- what an answer tells: the length of the file of a name; bytes of it from a place on; that it ends before as many bytes from a place on, at which place;
-- that there is no file of the name; that nothing is being written under a loose name; or that a call with a name failed, with the drive's counts of faults
-- before and after it
pub data Seen : Type 0 where
  Sized : List ℕ → ℕ → Seen
  Showed : List ℕ → ℕ → List ℕ → Seen
  CutShort : List ℕ → ℕ → ℕ → ℕ → Seen
  Missing : List ℕ → Seen
  Unwritten : List ℕ → Seen
  Faulted : List ℕ → ℕ → ℕ → Seen

-- a reading told the bytes that filled the buffer, or where the file ended before that, as far as a `u64` tells it
abbrev pub ReadTells : List ℕ → ℕ → List ℕ → ℕ → List ℕ → Seen → Type 0
ReadTells name at into count filled seen = ((count ≡ length into) × (seen ≡ Showed name at filled))
    ⊎ ((count < length into) × (seen ≡ CutShort name at (length into) (min (at + count) 18446744073709551615)))

-- a call with a name was not answered Ok: what it needs isn't there, or it failed
abbrev pub FaultTells : DriveFault → List ℕ → Seen → ℕ → ℕ → Seen → Type 0
FaultTells Absent name absent before after seen = seen ≡ absent
FaultTells Failed name absent before after seen = seen ≡ Faulted name before after
FaultTells NoMemory name absent before after seen = ⊥

-- what the answer of a call tells; that of a call which changes something, and was answered Ok, tells nothing
abbrev pub AnswerTells : DriveCall → ℕ → ℕ → Seen → Type 0
AnswerTells (Size name (Ok n)) before after seen = seen ≡ Sized name n
AnswerTells (Size name (Err fault)) before after seen = FaultTells fault name (Missing name) before after seen
AnswerTells (Read name at into (Ok count) filled) before after seen = ReadTells name at into count filled seen
AnswerTells (Read name at into (Err fault) filled) before after seen = FaultTells fault name (Missing name) before after seen
AnswerTells (Append loose bytes (Ok _)) before after seen = ⊥
AnswerTells (Append loose bytes (Err fault)) before after seen = FaultTells fault loose (Unwritten loose) before after seen
AnswerTells (Sync loose (Ok _)) before after seen = ⊥
AnswerTells (Sync loose (Err fault)) before after seen = FaultTells fault loose (Unwritten loose) before after seen
AnswerTells (Rename loose name (Ok _)) before after seen = ⊥
AnswerTells (Rename loose name (Err fault)) before after seen = FaultTells fault loose (Unwritten loose) before after seen
AnswerTells (Discard loose (Ok _)) before after seen = ⊥
AnswerTells (Discard loose (Err fault)) before after seen = FaultTells fault loose (Unwritten loose) before after seen
AnswerTells (Remove name (Ok _)) before after seen = ⊥
AnswerTells (Remove name (Err fault)) before after seen = FaultTells fault name (Missing name) before after seen
AnswerTells (Names from most (Ok _)) before after seen = ⊥
AnswerTells (Names from most (Err fault)) before after seen = FaultTells fault from (Missing from) before after seen

-- what a call that was made tells
abbrev pub Tells : MadeCall → Seen → Type 0
Tells made seen = AnswerTells made.call made.before made.after seen

-- a drive goes on over each call, and a reading only reads it
abbrev pub CallsGoOn : Type 0
CallsGoOn = (call : DriveCall) (old new : DriveView) → DriveModel call old new → GoesOn old new

abbrev pub ReadingsOnlyRead : Type 0
ReadingsOnlyRead = (call : DriveCall) (old new : DriveView) → IsReading call → DriveModel call old new → OnlyRead old new
