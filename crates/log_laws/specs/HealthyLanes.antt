-- A lane that is in use, tells and had no fault keeps the change that a section made.
use Rattle.std.specs.Prelude.{ℕ, ◌<◌, IsTrue, List, slice_index_or}
use Rattle.std.specs.Int.{IsBitSet}
use Rattle.drive_base.specs.declared.drive.Drive.{Ghosts}
use Rattle.fault_base.specs.Counts.{Rose}
use Rattle.stamp_id.specs.Rank.{change_of}
use Rattle.stamp_id.specs.declared.stamp.ChangeId.{ChangeId}
use Rattle.slot_history.specs.Standing.{Records}
use Rattle.slot_history.specs.State.{State}
use Rattle.op_steps.specs.Store.{LanesStand, SlotSeen}
use Rattle.op_steps.specs.ChangeLetters.{ChangeLetters, KeepsBaseOf}

module _ {D : Type 0} (ghosts : Ghosts D) where
  -- where a section made a change, each lane that is in use, tells and had no fault in it keeps the change as its base
  abbrev pub HealthyLanesKeep : Type 0
  HealthyLanesKeep = (was now : SlotSeen D) (name : List ℕ) (change : ChangeId) (records : Records) (state : State) → ChangeLetters ghosts was now name change
      → LanesStand ghosts.tells ghosts.files was records state → (k : ℕ) (d : D) → k < was.numbers.set.drives → (IsBitSet was.numbers.set.out k → ⊥)
      → IsTrue (ghosts.tells (slice_index_or was.lanes k d)) → (Rose (ghosts.count (slice_index_or was.lanes k d)) (ghosts.count (slice_index_or now.lanes k d)) → ⊥)
      → KeepsBaseOf (change_of change) ((ghosts.files (slice_index_or now.lanes k d)).kept name)
