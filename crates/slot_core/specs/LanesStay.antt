-- What a call leaves of lanes, lane by lane.
use Rattle.std.specs.Prelude.{◌≡◌, ◌<◌, ℕ, IsTrue, List, length, slice_index_or}
use Rattle.drive_base.specs.declared.drive.Drive.{Ghosts}

module _ {D : Type 0} (ghosts : Ghosts D) where
  -- the files of each lane that tells what it holds are as before
  abbrev pub FilesStay : List D → List D → Type 0
  FilesStay old new = (k : ℕ) (d : D) → k < length old → IsTrue (ghosts.tells (slice_index_or old k d))
      → ghosts.files (slice_index_or new k d) ≡ ghosts.files (slice_index_or old k d)

  -- each lane tells as before
  abbrev pub TellsStay : List D → List D → Type 0
  TellsStay old new = (k : ℕ) (d : D) → k < length old → ghosts.tells (slice_index_or new k d) ≡ ghosts.tells (slice_index_or old k d)
