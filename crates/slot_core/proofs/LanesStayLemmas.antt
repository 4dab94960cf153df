-- From what the views of lanes say to what is so of each lane.
use Rattle.std.proofs.Common.{List}
use Rattle.drive_base.specs.View.{AllGoOn, AllOnlyRead, OnlyRead, views}
use Rattle.drive_base.specs.declared.drive.Drive.{Ghosts}
use Rattle.drive_base.proofs.ViewLemmas.{at_each_drive, only_read_go_on, two_calls_go_on}
use Rattle.register_core.proofs.ViewedLemmas.{files_on}
use Rattle.slot_core.specs.LanesStay.{FilesStay, TellsStay}

module _ {D : Type 0} (ghosts : Ghosts D) where
  -- lanes that were only read keep their files, and tell as before
  pub files_stay : (old new : List D) → AllOnlyRead (views ghosts old) (views ghosts new) → FilesStay ghosts old new
  files_stay old new read = files_on ghosts old new read

  pub tells_stay : (old new : List D) → AllOnlyRead (views ghosts old) (views ghosts new) → TellsStay ghosts old new
  tells_stay old new read k d low = (at_each_drive ghosts (λ k. OnlyRead) old new read k d low).goes_on.tells

  -- and they go on, also over another call
  pub read_goes_on : (old new : List D) → AllOnlyRead (views ghosts old) (views ghosts new) → AllGoOn (views ghosts old) (views ghosts new)
  read_goes_on old new read = only_read_go_on (views ghosts old) (views ghosts new) read

  pub goes_after_read : (old mid new : List D) → AllOnlyRead (views ghosts old) (views ghosts mid) → AllGoOn (views ghosts mid) (views ghosts new)
      → AllGoOn (views ghosts old) (views ghosts new)
  goes_after_read old mid new read on = two_calls_go_on (views ghosts old) (views ghosts mid) (views ghosts new) (read_goes_on old mid read) on

  -- so it is over two calls
  pub goes_twice : (old mid new : List D) → AllGoOn (views ghosts old) (views ghosts mid) → AllGoOn (views ghosts mid) (views ghosts new)
      → AllGoOn (views ghosts old) (views ghosts new)
  goes_twice old mid new one two = two_calls_go_on (views ghosts old) (views ghosts mid) (views ghosts new) one two
