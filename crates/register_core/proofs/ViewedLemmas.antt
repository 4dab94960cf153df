-- What the views of lanes before and after a call say of each lane.
use Rattle.std.proofs.Common.{◌≡◌, ◌<◌, ◌≤◌, ℕ, List, length, slice_index_or}
use Rattle.std.specs.Prelude.{IsTrue}
use Rattle.drive_base.specs.View.{AllGoOn, AllOnlyRead, GoesOn, OnlyRead, views}
use Rattle.drive_base.specs.declared.drive.Drive.{Ghosts}
use Rattle.drive_base.proofs.ViewLemmas.{at_each_drive}

module _ {D : Type 0} (ghosts : Ghosts D) where
  -- each lane tells as before
  pub tells_on : (old new : List D) → AllGoOn (views ghosts old) (views ghosts new)
      → (k : ℕ) (d : D) → k < length old → ghosts.tells (slice_index_or new k d) ≡ ghosts.tells (slice_index_or old k d)
  tells_on old new on k d low = (at_each_drive ghosts (λ k. GoesOn) old new on k d low).tells

  -- no count fell
  pub counts_on : (old new : List D) → AllGoOn (views ghosts old) (views ghosts new)
      → (k : ℕ) (d : D) → k < length old → ghosts.count (slice_index_or old k d) ≤ ghosts.count (slice_index_or new k d)
  counts_on old new on k d low = (at_each_drive ghosts (λ k. GoesOn) old new on k d low).count

  -- the files of each lane that tells what it holds are as before, where the lanes were only read
  pub files_on : (old new : List D) → AllOnlyRead (views ghosts old) (views ghosts new)
      → (k : ℕ) (d : D) → k < length old → IsTrue (ghosts.tells (slice_index_or old k d)) → ghosts.files (slice_index_or new k d) ≡ ghosts.files (slice_index_or old k d)
  files_on old new read k d low told = (at_each_drive ghosts (λ k. OnlyRead) old new read k d low).files told
