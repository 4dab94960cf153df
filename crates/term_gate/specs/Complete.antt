-- When an opening can only succeed or lack memory.
use Rattle.std.specs.Prelude.{◌≡◌, ◌⊎◌, ℕ, ◌+◌, ◌<◌, ◌≤◌, ◌^◌, IsTrue, List, None, Some, length}
use Rattle.std.specs.Int.{IsBitSet}
use Rattle.fault_base.specs.Counts.{last_count}
use Rattle.drive_base.specs.DriveSet.{count_in}
use Rattle.drive_base.specs.Plan.{data_drives, write_drives}
use Rattle.drive_base.specs.View.{DriveView, view_at}
use Rattle.drive_base.specs.declared.plan.SetPlan.{SetPlan}
use Rattle.term_gate.specs.Formats.{IsOf, format_name}
use Rattle.term_gate.specs.Table.{IsCanonical, format_file}
use Rattle.term_gate.specs.Terms.{EachTells}
use Rattle.term_gate.specs.declared.record.Format.{Format as DriveFormat}

-- a drive tells what it holds, and none of its calls failed
pub record Serves (old new : DriveView) : Type 0 where
  pub tells : IsTrue old.tells
  pub stands : new.count ≡ old.count
  pub low : old.count < last_count

-- a drive shows no format
abbrev pub ShowsNone : DriveView → Type 0
ShowsNone drive = drive.files.shown format_name ≡ None

-- a drive shows this format, which is canonical
pub record Shows (f : DriveFormat) (drive : DriveView) : Type 0 where
  pub canonical : IsCanonical f
  pub shown : drive.files.shown format_name ≡ Some (format_file f)

-- each drive tells, and shows no format but its own in a set, before the last term
pub record EachOwn (set : SetPlan) (drives : List DriveView) : Type 0 where
  pub tell : EachTells drives
  pub own : (k : ℕ) (f : DriveFormat) → k < length drives → Shows f (view_at drives k) → IsOf set k f × (f.term + 1 < 2 ^ 48)

-- as many drives as are read serve and show a format
pub record CanBeRead (set : SetPlan) (readers : ℕ) (old new : List DriveView) : Type 0 where
  pub enough : data_drives set.drives set.parity ≤ count_in readers (length old)
  pub serve : (k : ℕ) → k < length old → IsBitSet readers k → Serves (view_at old k) (view_at new k)
  pub shows : (k : ℕ) → k < length old → IsBitSet readers k → (f : DriveFormat) × Shows f (view_at old k)

-- as many drives as must take a write serve and are not without a format
pub record CanBeWritten (set : SetPlan) (old new : List DriveView) : Type 0 where
  pub writers : ℕ
  pub enough : write_drives set.drives set.parity ≤ count_in writers (length old)
  pub serve : (k : ℕ) → k < length old → IsBitSet writers k → Serves (view_at old k) (view_at new k)
  pub formatted : (k : ℕ) → k < length old → IsBitSet writers k → ShowsNone (view_at old k) → ⊥

-- some of the drives that are read shows a term of 1 or more
abbrev pub WasOpened : ℕ → List DriveView → Type 0
WasOpened readers drives = (k : ℕ) × (k < length drives) × IsBitSet readers k × ((f : DriveFormat) × Shows f (view_at drives k) × (1 ≤ f.term))

-- no drive is without a format
abbrev pub NoneLacks : List DriveView → Type 0
NoneLacks drives = (k : ℕ) → k < length drives → ShowsNone (view_at drives k) → ⊥

-- a set that was made before can be opened, over drives before and after
pub record CanOpen (set : SetPlan) (old new : List DriveView) : Type 0 where
  pub own : EachOwn set old
  pub readers : ℕ
  pub read : CanBeRead set readers old new
  pub made : WasOpened readers old ⊎ NoneLacks old
  pub written : CanBeWritten set old new

-- a set can be made and opened: each drive serves, and shows a format of term 0 or none, and some shows none
pub record CanMake (set : SetPlan) (old new : List DriveView) : Type 0 where
  pub own : EachOwn set old
  pub each : (k : ℕ) → k < length old → Serves (view_at old k) (view_at new k)
  pub unopened : (k : ℕ) → k < length old → ShowsNone (view_at old k) ⊎ ((f : DriveFormat) × Shows f (view_at old k) × (f.term ≡ 0))
  pub some : (k : ℕ) × (k < length old) × ShowsNone (view_at old k)
