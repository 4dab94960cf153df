-- What is read of the drives.
use Rattle.std.specs.Prelude.{◌≡◌, ℕ, IsTrue, List, Option, Some, None, length, slice_index_or, Result, Ok, Err}
use Rattle.call_types.specs.declared.why.FileKind.TheVariants.{Format, Register, Manifest, Shard}
use Rattle.call_types.specs.declared.why.Why.{Why}
use Rattle.call_types.specs.declared.why.Why.TheVariants.{Good, Failed, Damaged, Behind, Lacks}
use Rattle.drive_base.specs.View.{AllOnlyRead, AtEach, DriveView}
use Rattle.file_access.specs.Reading.{FailedWhile}
use Rattle.file_access.specs.declared.fault.FetchFault.{FetchFault}
use Rattle.file_access.specs.declared.fault.FetchFault.TheVariants.{Because, NoMemory}
use Rattle.term_gate.specs.Formats.{IsFormatDamage, format_name}
use Rattle.term_gate.specs.Table.{IsCanonical, format_file}
use Rattle.term_gate.specs.declared.record.Format.{Format as DriveFormat}

-- the letter of a drive
abbrev pub why_at : List Why → ℕ → Why
why_at whys k = slice_index_or whys k (Lacks Format)

-- the format that was read of a drive, none where it gave no good one
abbrev pub format_at : List (Option DriveFormat) → ℕ → Option DriveFormat
format_at formats k = slice_index_or formats k None

-- why no good format was read of a drive: its count of faults rose, what it shows is damaged, or it shows none
abbrev pub NoFormat : Why → DriveView → DriveView → Type 0
NoFormat Good old new = ⊥
NoFormat (Failed before after) old new = FailedWhile before after old.count new.count
NoFormat (Damaged damage) old new = (new.count ≡ old.count)
    × (IsTrue old.tells → (bytes : List ℕ) × (old.files.shown format_name ≡ Some bytes) × IsFormatDamage bytes damage)
NoFormat (Behind _) old new = ⊥
NoFormat (Lacks Format) old new = (new.count ≡ old.count) × (IsTrue old.tells → old.files.shown format_name ≡ None)
NoFormat (Lacks Register) old new = ⊥
NoFormat (Lacks Manifest) old new = ⊥
NoFormat (Lacks Shard) old new = ⊥

-- what was read of a drive: its format, or why not
abbrev pub DriveIsRead : Option DriveFormat → Why → DriveView → DriveView → Type 0
DriveIsRead (Some f) why old new = (why ≡ Good) × (new.count ≡ old.count) × IsCanonical f
    × (IsTrue old.tells → old.files.shown format_name ≡ Some (format_file f))
DriveIsRead None why old new = NoFormat why old new

-- what reading one drive answers; memory was wanting only where no count rose
abbrev pub ReadsDrive : Result DriveFormat FetchFault → DriveView → DriveView → Type 0
ReadsDrive (Ok f) old new = DriveIsRead (Some f) Good old new
ReadsDrive (Err (Because why)) old new = DriveIsRead None why old new
ReadsDrive (Err NoMemory) old new = new.count ≡ old.count

-- only a damage is told, and the bytes have it
abbrev pub IsDamagedSo : List ℕ → Why → Type 0
IsDamagedSo bytes Good = ⊥
IsDamagedSo bytes (Failed _ _) = ⊥
IsDamagedSo bytes (Damaged damage) = IsFormatDamage bytes damage
IsDamagedSo bytes (Behind _) = ⊥
IsDamagedSo bytes (Lacks _) = ⊥

-- the format whose file the bytes are, or what is wrong with them
abbrev pub OpensFormat : List ℕ → Result DriveFormat FetchFault → Type 0
OpensFormat bytes (Ok f) = IsCanonical f × (bytes ≡ format_file f)
OpensFormat bytes (Err (Because why)) = IsDamagedSo bytes why
OpensFormat bytes (Err NoMemory) = Unit {0}

-- what was read of each drive, and its letter; each drive was only read
pub record AreRead (formats : List (Option DriveFormat)) (whys : List Why) (old new : List DriveView) : Type 0 where
  pub counted : length formats ≡ length old
  pub lettered : length whys ≡ length old
  pub drives : AtEach (λ k. DriveIsRead (format_at formats k) (why_at whys k)) old new
  pub only : AllOnlyRead old new
