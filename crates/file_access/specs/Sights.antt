-- What the answer of a call tells was so, of a drive that tells.
use Rattle.std.specs.Prelude.{◌≡◌, ℕ, ◌+◌, ◌<◌, min, max, IsTrue, List, length, Some, None}
use Rattle.drive_base.specs.Calls.{MadeCall, Seen, Tells, WasMade}
use Rattle.drive_base.specs.Calls.Seen.{CutShort, Faulted, Missing, Showed, Sized, Unwritten}
use Rattle.drive_base.specs.View.{DriveView}
use Rattle.fault_base.specs.Counts.{Rose}
use Rattle.field_reader.specs.Spelling.{IsBytes}
use Rattle.file_access.specs.Reading.{HasLength, IsPieceAt}

-- what an answer told was so of its drive, as this was before and after the call: of what a drive that tells showed, and of its count of faults
abbrev pub WasSo : Seen → DriveView → DriveView → Type 0
WasSo (Sized name n) old new = (new.count ≡ old.count) × (IsTrue old.tells → HasLength old.files name n)
WasSo (Showed name at bytes) old new = (new.count ≡ old.count) × IsBytes bytes × (IsTrue old.tells → IsPieceAt old.files name at bytes)
WasSo (CutShort name at long place) old new = (new.count ≡ old.count) × (IsTrue old.tells → (file : List ℕ) × (old.files.shown name ≡ Some file)
    × (length file < at + long) × (place ≡ min (max at (length file)) 18446744073709551615))
WasSo (Missing name) old new = (new.count ≡ old.count) × (IsTrue old.tells → old.files.shown name ≡ None)
WasSo (Unwritten name) old new = (new.count ≡ old.count) × (IsTrue old.tells → old.files.loose name ≡ None)
WasSo (Faulted name before after) old new = (before ≡ old.count) × (after ≡ new.count) × Rose old.count new.count

-- each call that was made tells what was so
abbrev pub CallsTellWhatWasSo : Type 0
CallsTellWhatWasSo = (made : MadeCall) (seen : Seen) (old new : DriveView) → WasMade made old new → Tells made seen → WasSo seen old new
