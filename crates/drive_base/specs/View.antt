-- What a contract sees of a drive, and of the drives of a set, so that it speaks of plain lists.
use Rattle.std.specs.Prelude.{◌≡◌, ◌<◌, ◌≤◌, ℕ, Bool, false, IsTrue, List, [], length, map, slice_index_or}
use Rattle.drive_base.specs.declared.drive.Drive.{Ghosts}
use Rattle.drive_base.specs.Files.{Files, no_files}
use Rattle.drive_base.specs.Trail.{DriveCall, GrewByReadings}

-- a drive: whether it tells what it holds, its files, its count of faults, and the calls that were made of it
pub record DriveView : Type 0 where
  pub tells : Bool
  pub files : Files
  pub count : ℕ
  pub trail : List DriveCall

-- a drive that tells nothing and has no faults
abbrev pub blank_view : DriveView
blank_view = record { tells = false; files = no_files; count = 0; trail = [] }

-- what is seen of one drive
abbrev pub view : {D : Type 0} → Ghosts D → D → DriveView
view ghosts drive = record { tells = ghosts.tells drive; files = ghosts.files drive; count = ghosts.count drive; trail = ghosts.trail drive }

-- what is seen of each drive of a list
abbrev pub views : {D : Type 0} → Ghosts D → List D → List DriveView
views ghosts drives = map (view ghosts) drives

-- the drive of this index
abbrev pub view_at : List DriveView → ℕ → DriveView
view_at drives k = slice_index_or drives k blank_view

-- at each place a relation holds between the drive before and the same drive after
pub record AtEach (R : ℕ → DriveView → DriveView → Type 0) (old new : List DriveView) : Type 0 where
  pub long : length new ≡ length old
  pub each : (k : ℕ) → k < length old → R k (view_at old k) (view_at new k)

-- at some place it does
pub record AtSome (R : ℕ → DriveView → DriveView → Type 0) (old new : List DriveView) : Type 0 where
  pub place : ℕ
  pub within : place < length old
  pub is : R place (view_at old place) (view_at new place)

-- a drive tells as before, and its count did not fall
pub record GoesOn (old new : DriveView) : Type 0 where
  pub tells : new.tells ≡ old.tells
  pub count : old.count ≤ new.count

-- what was done to a drive only read it
pub record OnlyRead (old new : DriveView) : Type 0 where
  pub goes_on : GoesOn old new
  pub files : IsTrue old.tells → new.files ≡ old.files
  pub trail : GrewByReadings old.trail new.trail

-- each drive tells as before, and no count fell
abbrev pub AllGoOn : List DriveView → List DriveView → Type 0
AllGoOn old new = AtEach (λ k. GoesOn) old new

-- each drive was only read
abbrev pub AllOnlyRead : List DriveView → List DriveView → Type 0
AllOnlyRead old new = AtEach (λ k. OnlyRead) old new

-- each drive tells what it holds, but those of which it is not asked
abbrev pub AllTell : (ℕ → Type 0) → List DriveView → Type 0
AllTell IsAsked drives = (k : ℕ) → k < length drives → IsAsked k → IsTrue (view_at drives k).tells

-- drives that nothing was done to go on, and were only read
abbrev pub UntouchedGoOn : Type 0
UntouchedGoOn = (drives : List DriveView) → AllGoOn drives drives

abbrev pub UntouchedAreOnlyRead : Type 0
UntouchedAreOnlyRead = (drives : List DriveView) → AllOnlyRead drives drives

-- so it is over two calls, where it is so over each
abbrev pub TwoCallsGoOn : Type 0
TwoCallsGoOn = (old mid new : List DriveView) → AllGoOn old mid → AllGoOn mid new → AllGoOn old new

abbrev pub TwoCallsOnlyRead : Type 0
TwoCallsOnlyRead = (old mid new : List DriveView) → AllOnlyRead old mid → AllOnlyRead mid new → AllOnlyRead old new

-- drives that were only read go on
abbrev pub OnlyReadGoOn : Type 0
OnlyReadGoOn = (old new : List DriveView) → AllOnlyRead old new → AllGoOn old new
