-- Why each lane of a slot took a change that a section made, or didn't, whatever the lanes tell.
use Rattle.std.specs.Prelude.{◌≡◌, ℕ, ◌<◌, ◌≤◌, IsTrue, List, Option, length, slice_index_or}
use Rattle.std.specs.Int.{IsBitSet}
use Rattle.call_types.specs.Good.{good_count}
use Rattle.call_types.specs.declared.why.FileKind.TheVariants.{Format, Manifest, Register, Shard}
use Rattle.call_types.specs.declared.why.Why.{Why}
use Rattle.call_types.specs.declared.why.Why.TheVariants.{Behind, Damaged, Failed, Good, Lacks}
use Rattle.drive_base.specs.declared.drive.Drive.{Ghosts}
use Rattle.file_access.specs.Reading.{FailedWhile}
use Rattle.stamp_id.specs.Rank.{change_of}
use Rattle.stamp_id.specs.declared.stamp.ChangeId.{ChangeId}
use Rattle.vote_core.specs.Lane.{Lane}
use Rattle.register_core.specs.LaneWrites.{letter_at}
use Rattle.register_core.specs.Records.{HasLane}
use Rattle.slot_history.specs.Standing.{Records}
use Rattle.slot_history.specs.State.{State}
use Rattle.slot_core.specs.Views.{quorum_of}
use Rattle.op_steps.specs.Store.{LanesStand, SlotSeen}

-- what is kept under a register's name is a file whose base carries this change
abbrev pub KeepsBaseOf : ℕ → Option (List ℕ) → Type 0
KeepsBaseOf change kept = (lane : Lane) × HasLane kept lane × (lane.base.change ≡ change)

module _ {D : Type 0} (ghosts : Ghosts D) where
  -- why a lane took a change, or didn't: it is in use; or its count of faults rose in the section; or it tells nothing, and forgot the file that was just
  -- written to it; or it is out
  abbrev pub LaneLetter : ℕ → ℕ → Why → D → D → Type 0
  LaneLetter out k Good old new = IsBitSet out k → ⊥
  LaneLetter out k (Failed before after) old new = (IsBitSet out k → ⊥) × FailedWhile before after (ghosts.count old) (ghosts.count new)
  LaneLetter out k (Damaged damage) old new = ⊥
  LaneLetter out k (Behind ballot) old new = ⊥
  LaneLetter out k (Lacks Format) old new = IsBitSet out k
  LaneLetter out k (Lacks Register) old new = (IsBitSet out k → ⊥) × (IsTrue (ghosts.tells old) → ⊥)
  LaneLetter out k (Lacks Manifest) old new = ⊥
  LaneLetter out k (Lacks Shard) old new = ⊥

  -- a letter for each lane of a section that made a change under a name: as many are good as must take a write, and where the lanes stood for a state, each
  -- lane whose letter is good keeps the change as its base
  pub record ChangeLetters (was now : SlotSeen D) (name : List ℕ) (change : ChangeId) : Type 0 where
    pub whys : List Why
    pub counted : length whys ≡ was.numbers.set.drives
    pub each : (k : ℕ) (d : D) → k < was.numbers.set.drives
        → LaneLetter was.numbers.set.out k (letter_at whys k) (slice_index_or was.lanes k d) (slice_index_or now.lanes k d)
    pub enough : quorum_of was.numbers ≤ good_count whys
    pub marked : (records : Records) (state : State) → LanesStand ghosts.tells ghosts.files was records state → (k : ℕ) (d : D) → k < was.numbers.set.drives
        → letter_at whys k ≡ Good → KeepsBaseOf (change_of change) ((ghosts.files (slice_index_or now.lanes k d)).kept name)
