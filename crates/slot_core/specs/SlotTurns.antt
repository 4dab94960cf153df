-- What a section does to the slot in which it is done, by the turn that it answers.
use Rattle.std.specs.Prelude.{ℕ, Bool, List, Option}
use Rattle.audit_trail.specs.declared.entry.Entry.{Entry}
use Rattle.drive_base.specs.Files.{Files}
use Rattle.drive_base.specs.declared.drive.Drive.{Ghosts}
use Rattle.stamp_id.specs.declared.version.VersionId.{VersionId}
use Rattle.slot_data.specs.Disks.{Disks}
use Rattle.slot_data.specs.Holding.{Hands}
use Rattle.slot_history.specs.State.{State}
use Rattle.slot_rules.specs.declared.commit.Commit.{Commit}
use Rattle.slot_rules.specs.declared.commit.Committed.{Committed}
use Rattle.slot_core.specs.CommitCauses.{CommitCause, deed_in}
use Rattle.slot_core.specs.Commits.{FitsFlight, MayCommitData, ShowsTrash}
use Rattle.slot_core.specs.Stubs.{entry_of}
use Rattle.slot_core.specs.Turns.{Leaves, Turns, TurnsQuietly, TurnsUnspent}
use Rattle.slot_core.specs.Views.{audit_of, holding_of, lanes_of, numbers_of}
use Rattle.slot_core.specs.declared.holding.Flight.{Flight}
use Rattle.slot_core.specs.declared.slot.Slot.{Slot}
use Rattle.slot_core.specs.declared.stub.Stub.{Stub}
use Rattle.slot_core.specs.declared.stub.Turn.{Turn}

module _ {D A T : Type 0} (entries : A → Option (List Entry)) (count : A → ℕ) where
  -- a section that writes an entry turns a slot, and answers this turn
  abbrev pub SlotTurns : Slot D A → Slot D A → Turn T → Type 0
  SlotTurns old new turn = Turns (numbers_of old) (numbers_of new) (entries (audit_of old)) (entries (audit_of new))
      (count (audit_of old)) (count (audit_of new)) turn.answer turn.stub

  -- so does one that writes none
  abbrev pub SlotTurnsQuietly : Slot D A → Slot D A → Turn T → Type 0
  SlotTurnsQuietly old new turn = TurnsQuietly (numbers_of old) (numbers_of new) (entries (audit_of old)) (entries (audit_of new))
      (count (audit_of old)) (count (audit_of new)) turn.answer turn.stub

  -- and one that writes an entry and draws no number
  abbrev pub SlotTurnsUnspent : Slot D A → Slot D A → Turn T → Type 0
  SlotTurnsUnspent old new turn = TurnsUnspent (numbers_of old) (numbers_of new) (entries (audit_of old)) (entries (audit_of new))
      (count (audit_of old)) (count (audit_of new)) turn.answer turn.stub

module _ {D A : Type 0} (tells : D → Bool) (files : D → Files) where
  -- what a section leaves of a slot, over every state for which its lanes stand
  abbrev pub SlotLeaves : Slot D A → Slot D A → Option Stub → (State → State → Type 0) → (Disks → Hands → Hands → Type 0) → Type 0
  SlotLeaves old new stub Shows Moves = Leaves tells files (numbers_of old) (numbers_of new) (holding_of old) (holding_of new)
      (lanes_of old) (lanes_of new) stub Shows Moves

  -- so a commit does whose flight fits its deed: its answer shows which data is trash
  abbrev pub SlotCommitLeaves : Slot D A → Slot D A → Commit → Option Flight → Turn Committed → Type 0
  SlotCommitLeaves old new deed flight turn = FitsFlight deed flight
      → SlotLeaves old new turn.stub (ShowsTrash deed turn.answer (holding_of old).trash (holding_of new).trash) (MayCommitData deed (holding_of new))

module _ {D A : Type 0} (ghosts : Ghosts D) where
  -- from which calls the turn of a commit in a slot comes
  abbrev pub SlotCommitCause : Slot D A → Slot D A → Commit → Option VersionId → ℕ → Turn Committed → List D → List D → Type 0
  SlotCommitCause old new deed put now turn disks disks_after = CommitCause ghosts (numbers_of old) (numbers_of new) deed put now turn.answer
      (deed_in (entry_of turn.stub)) (lanes_of old) (lanes_of new) disks disks_after
