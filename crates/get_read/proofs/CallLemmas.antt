-- What single calls of `file_access` told is what they were seen to give.
use Rattle.std.proofs.Common.{◌≡◌, ℕ, ◌<◌, List, ap, arith, inl, inr, length, refl, subst}
use Rattle.std.specs.Prelude.{Err, IfErr, Ok, Result, false, slice_index}
use Rattle.call_types.specs.Good.{is_good}
use Rattle.call_types.specs.declared.why.FileKind.{FileKind}
use Rattle.call_types.specs.declared.why.Why.{Why}
use Rattle.call_types.specs.declared.why.Why.TheVariants.{Good, Failed, Damaged, Behind, Lacks}
use Rattle.seal_file.specs.declared.damage.Damage.TheVariants.{Short, Digest, Kind, Spelling, Long}
use Rattle.field_reader.specs.Spelling.{IsBytes}
use Rattle.drive_base.specs.Calls.{AnswerTells, CutShort, Faulted, Missing, Seen, Showed, Sized, bytes_read}
use Rattle.drive_base.specs.DriveModel.{DriveModel}
use Rattle.drive_base.specs.Trail.{DriveCall, IsReading, Read, Size}
use Rattle.drive_base.specs.View.{DriveView}
use Rattle.drive_base.specs.declared.fault.DriveFault.{DriveFault}
use Rattle.drive_base.specs.declared.fault.DriveFault.TheVariants as fault
use Rattle.file_access.specs.Reading.{FailedOnce, IsCutShort, IsShort, IsWhyNot, NeverDamaged, NoDamage}
use Rattle.file_access.specs.Trails.{AnswerOf, FillAnswerOf}
use Rattle.get_read.specs.Account.{WasSeen}
use Rattle.get_read.specs.Calls.{SizeCall, WasSeenSo}
use Rattle.get_read.specs.Letters.{TellsNoPiece}

-- a reading of a drive, by what its answer tells
seen_by : (call : DriveCall) (before after : ℕ) (seen : Seen) (old new : DriveView) → DriveModel call old new → before ≡ old.count → after ≡ new.count
    → ((place : ℕ) → slice_index (bytes_read call) place < 256) → AnswerTells call before after seen → IsReading call → WasSeen seen old new
seen_by call before after seen old new model from to bytes tells reading = record {
  made = record { call = call; before = before; after = after };
  was = record { model = model; before = from; after = to; bytes = bytes };
  tells = tells;
  reading = reading;
}

-- a call for the length of a file that answered so
sized_by : (name : List ℕ) (answer is : Result ℕ DriveFault) (before after : ℕ) (seen : Seen) (old new : DriveView) → answer ≡ is
    → DriveModel (Size name answer) old new → before ≡ old.count → after ≡ new.count → AnswerTells (Size name is) before after seen → WasSeen seen old new
sized_by name answer is before after seen old new same model from to tells =
    seen_by (Size name is) before after seen old new (subst (λ (a : Result ℕ DriveFault). DriveModel (Size name a) old new) same model) from to
    (λ place. omega arith) tells tt

pub size_called : (kind : FileKind) (name : List ℕ) (result : Result ℕ Why) (answer : Result ℕ DriveFault) (old new : DriveView) → AnswerOf result answer
    → DriveModel (Size name answer) old new
    → IfErr result (λ why. IsWhyNot kind name NeverDamaged why old.tells old.files old.count new.count)
    → IfErr result (λ why. FailedOnce NoDamage why old.count new.count) → SizeCall kind name result old new
size_called kind name (Ok n) answer old new is model cause once =
    sized_by name answer (Ok n) old.count new.count (Sized name n) old new is model refl refl refl
size_called kind name (Err Good) answer old new is model cause once = absurd cause
size_called kind name (Err (Failed before after)) answer old new is model cause once = (
  refl,
  (
    Faulted name before after,
    sized_by name answer (Err fault.Failed) before after (Faulted name before after) old new is model once.0 once.1 refl,
    refl,
  ),
)
size_called kind name (Err (Damaged damage)) answer old new is model cause once = absurd once
size_called kind name (Err (Behind ballot)) answer old new is model cause once = absurd cause
size_called kind name (Err (Lacks lacked)) answer old new is model cause once = (
  refl,
  (
    Missing name,
    sized_by name answer (Err fault.Absent) old.count new.count (Missing name) old new is model refl refl refl,
    (cause.0, refl),
  ),
)

-- a call for bytes of a file that answered so
read_by : (name : List ℕ) (at : ℕ) (into filled : List ℕ) (answer is : Result ℕ DriveFault) (before after : ℕ) (seen : Seen) (old new : DriveView) → answer ≡ is
    → DriveModel (Read name at into answer filled) old new → IsBytes filled → before ≡ old.count → after ≡ new.count
    → AnswerTells (Read name at into is filled) before after seen → WasSeen seen old new
read_by name at into filled answer is before after seen old new same model bytes from to tells =
    seen_by (Read name at into is filled) before after seen old new
    (subst (λ (a : Result ℕ DriveFault). DriveModel (Read name at into a filled) old new) same model) from to bytes tells tt

-- which gave them all
pub piece_read : (name : List ℕ) (at long : ℕ) (into filled : List ℕ) (answer : Result ℕ DriveFault) (old new : DriveView) → long ≡ length into
    → answer ≡ Ok long → DriveModel (Read name at into answer filled) old new → IsBytes filled → WasSeen (Showed name at filled) old new
piece_read name at long into filled answer old new whole same model bytes =
    read_by name at into filled answer (Ok long) old.count new.count (Showed name at filled) old new same model bytes refl refl (inl (whole, refl))

-- or not
failed_by : (kind : FileKind) (name : List ℕ) (at : ℕ) (into filled : List ℕ) (why : Why) (answer : Result ℕ DriveFault) (old new : DriveView)
    → FillAnswerOf at (length into) (Err why) answer → DriveModel (Read name at into answer filled) old new → IsBytes filled
    → IsWhyNot kind name (IsCutShort at (length into)) why old.tells old.files old.count new.count → FailedOnce IsShort why old.count new.count
    → (is_good why ≡ false) × WasSeenSo (TellsNoPiece kind name at (length into) why) old new
failed_by kind name at into filled Good answer old new is model bytes cause once = absurd cause
failed_by kind name at into filled (Failed before after) answer old new is model bytes cause once = (
  refl,
  (
    Faulted name before after,
    read_by name at into filled answer (Err fault.Failed) before after (Faulted name before after) old new is model bytes once.0 once.1 refl,
    refl,
  ),
)
failed_by kind name at into filled (Damaged (Short place)) answer old new is model bytes cause once = (
  refl,
  (
    CutShort name at (length into) place,
    read_by name at into filled answer (Ok is.0) old.count new.count (CutShort name at (length into) place) old new is.1 model bytes refl refl
        (inr (is.2, ap (CutShort name at (length into)) is.3)),
    refl,
  ),
)
failed_by kind name at into filled (Damaged (Digest wanted found)) answer old new is model bytes cause once = absurd once
failed_by kind name at into filled (Damaged (Kind found)) answer old new is model bytes cause once = absurd once
failed_by kind name at into filled (Damaged (Spelling place)) answer old new is model bytes cause once = absurd once
failed_by kind name at into filled (Damaged (Long size)) answer old new is model bytes cause once = absurd once
failed_by kind name at into filled (Behind ballot) answer old new is model bytes cause once = absurd cause
failed_by kind name at into filled (Lacks lacked) answer old new is model bytes cause once = (
  refl,
  (
    Missing name,
    read_by name at into filled answer (Err fault.Absent) old.count new.count (Missing name) old new is model bytes refl refl refl,
    (cause.0, refl),
  ),
)

pub piece_failed : (kind : FileKind) (name : List ℕ) (at long : ℕ) (into filled : List ℕ) (why : Why) (answer : Result ℕ DriveFault) (old new : DriveView)
    → length into ≡ long → FillAnswerOf at (length into) (Err why) answer → DriveModel (Read name at into answer filled) old new → IsBytes filled
    → IsWhyNot kind name (IsCutShort at (length into)) why old.tells old.files old.count new.count → FailedOnce IsShort why old.count new.count
    → (is_good why ≡ false) × WasSeenSo (TellsNoPiece kind name at long why) old new
piece_failed kind name at long into filled why answer old new same is model bytes cause once =
    subst (λ (n : ℕ). (is_good why ≡ false) × WasSeenSo (TellsNoPiece kind name at n why) old new) same
    (failed_by kind name at into filled why answer old new is model bytes cause once)
