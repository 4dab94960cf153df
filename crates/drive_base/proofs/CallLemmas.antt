-- What a call that was made leaves of its drive, whatever this tells.
use Rattle.std.proofs.Common.{◌≡◌, ◌≤◌, ℕ, [], ◌∷◌, arith}
use Rattle.std.specs.Prelude.{Ok, Err}
use Rattle.drive_base.specs.Calls.{CallsGoOn, ReadingsOnlyRead}
use Rattle.drive_base.specs.DriveModel.{CountAfter, FilesAfter}
use Rattle.drive_base.specs.Trail.{DriveCall, IsReading, Size, Read, Append, Sync, Rename, Discard, Remove, Names}
use Rattle.drive_base.specs.View.{DriveView}
use Rattle.drive_base.specs.declared.fault.DriveFault.TheVariants.{Absent, Failed, NoMemory}

-- no count falls
count_after : (call : DriveCall) (old new : ℕ) → CountAfter call old new → old ≤ new
count_after (Size name (Ok n)) old new is = omega (arith, is)
count_after (Size name (Err Absent)) old new is = omega (arith, is)
count_after (Size name (Err Failed)) old new is = is.0
count_after (Size name (Err NoMemory)) old new is = absurd is
count_after (Read name at into (Ok n) filled) old new is = omega (arith, is)
count_after (Read name at into (Err Absent) filled) old new is = omega (arith, is)
count_after (Read name at into (Err Failed) filled) old new is = is.0
count_after (Read name at into (Err NoMemory) filled) old new is = absurd is
count_after (Append loose bytes (Ok done)) old new is = omega (arith, is)
count_after (Append loose bytes (Err Absent)) old new is = absurd is
count_after (Append loose bytes (Err Failed)) old new is = is.0
count_after (Append loose bytes (Err NoMemory)) old new is = absurd is
count_after (Sync loose (Ok done)) old new is = omega (arith, is)
count_after (Sync loose (Err Absent)) old new is = omega (arith, is)
count_after (Sync loose (Err Failed)) old new is = is.0
count_after (Sync loose (Err NoMemory)) old new is = absurd is
count_after (Rename loose name (Ok done)) old new is = omega (arith, is)
count_after (Rename loose name (Err Absent)) old new is = omega (arith, is)
count_after (Rename loose name (Err Failed)) old new is = is.0
count_after (Rename loose name (Err NoMemory)) old new is = absurd is
count_after (Discard loose (Ok done)) old new is = omega (arith, is)
count_after (Discard loose (Err Absent)) old new is = omega (arith, is)
count_after (Discard loose (Err Failed)) old new is = is.0
count_after (Discard loose (Err NoMemory)) old new is = absurd is
count_after (Remove name (Ok done)) old new is = omega (arith, is)
count_after (Remove name (Err Absent)) old new is = omega (arith, is)
count_after (Remove name (Err Failed)) old new is = is.0
count_after (Remove name (Err NoMemory)) old new is = absurd is
count_after (Names from most (Ok names)) old new is = omega (arith, is)
count_after (Names from most (Err Absent)) old new is = absurd is
count_after (Names from most (Err Failed)) old new is = is.0
count_after (Names from most (Err NoMemory)) old new is = omega (arith, is)

pub calls_go_on : CallsGoOn
calls_go_on call old new model = record { tells = model.tells; count = count_after call old.count new.count model.count }

-- a reading changes nothing
files_after : (call : DriveCall) (old new : DriveView) → IsReading call → FilesAfter call old new → new.files ≡ old.files
files_after (Size name (Ok n)) old new reads is = is.1
files_after (Size name (Err Absent)) old new reads is = is.1
files_after (Size name (Err Failed)) old new reads is = is
files_after (Size name (Err NoMemory)) old new reads is = absurd is
files_after (Read name at into (Ok n) filled) old new reads is = is.1
files_after (Read name at into (Err Absent) filled) old new reads is = is.1
files_after (Read name at into (Err Failed) filled) old new reads is = is
files_after (Read name at into (Err NoMemory) filled) old new reads is = absurd is
files_after (Append loose bytes answer) old new reads is = absurd reads
files_after (Sync loose answer) old new reads is = absurd reads
files_after (Rename loose name answer) old new reads is = absurd reads
files_after (Discard loose answer) old new reads is = absurd reads
files_after (Remove name answer) old new reads is = absurd reads
files_after (Names from most (Ok names)) old new reads is = is.1
files_after (Names from most (Err Absent)) old new reads is = absurd is
files_after (Names from most (Err Failed)) old new reads is = is
files_after (Names from most (Err NoMemory)) old new reads is = is

pub readings_only_read : ReadingsOnlyRead
readings_only_read call old new reads model = record {
  goes_on = calls_go_on call old new model;
  files = λ told. files_after call old new reads (model.files told);
  trail = record { more = call ∷ []; readings = (reads, tt); grown = model.trail };
}
