-- A look of a slot, by that of its lanes.
use Rattle.std.proofs.Common.{◌≡◌, ℕ, List, Option, None, Some, Result, Ok, Err, subst, sym}
use Rattle.std.specs.Prelude.{Bool}
use Rattle.drive_base.specs.declared.drive.Drive.{Ghosts}
use Rattle.drive_base.specs.Files.{Files}
use Rattle.stamp_id.specs.declared.stamp.ChangeId.{ChangeId}
use Rattle.register_file.specs.declared.record.Next.{Next}
use Rattle.slot_data.specs.Disks.{Disks}
use Rattle.slot_data.specs.Holding.{Hands, Holding}
use Rattle.slot_history.specs.State.{State}
use Rattle.slot_core.specs.Causes.{Completes, PeekCause}
use Rattle.slot_core.specs.Turns.{Leaves, TurnLeaves}
use Rattle.slot_core.specs.Views.{SlotNumbers}
use Rattle.slot_core.specs.declared.slot.SlotFault.{SlotFault}
use Rattle.slot_core.specs.declared.slot.SlotFault.TheVariants.{Quorum, Key, SeqSpent, AuditFailed, NoMemory, NotInFlight}
use Rattle.slot_core.specs.declared.stub.Stub.{Stub}
use Rattle.slot_core.proofs.LaneLemmas.{stands_turned, with_turns}

module _ {D : Type 0} (tells : D → Bool) (files : D → Files) where
  -- what a section leaves doesn't go by how many were done
  pub leaves_turned : (numbers later : SlotNumbers) (turns : ℕ) (held_old held_new : Holding) (old old_is new new_is : List D) (stub : Option Stub) (Shows : State → State → Type 0)
      (Moves : Disks → Hands → Hands → Type 0) → old_is ≡ old → new_is ≡ new
      → Leaves tells files numbers later held_old held_new old_is new_is stub Shows Moves
      → Leaves tells files numbers (with_turns later turns) held_old held_new old new stub Shows Moves
  leaves_turned numbers later turns held_old held_new old old_is new new_is stub Shows Moves same_old same_new leaves =
      let both : Leaves tells files numbers later held_old held_new old new stub Shows Moves =
      subst (λ (l : List D). Leaves tells files numbers later held_old held_new old l stub Shows Moves) same_new
      (subst (λ (l : List D). Leaves tells files numbers later held_old held_new l new_is stub Shows Moves) same_old leaves) in
      λ records state s.
      let turn : TurnLeaves tells files numbers later held_old held_new new stub Shows Moves records state = both records state s in
      record {
        after = turn.after;
        now = turn.now;
        stands = stands_turned tells files later turns held_new.flights new turn.after turn.now turn.stands;
        stay = turn.stay;
        moves = turn.moves;
        calm = turn.calm;
        holds = turn.holds;
      }

-- nor does what it tells of what was pending
pub completes_turned : (numbers later : SlotNumbers) (turns : ℕ) (pending : Option Next) (late : Option ChangeId) → Completes numbers later pending late
    → Completes numbers (with_turns later turns) pending late
completes_turned numbers later turns None late told = told
completes_turned numbers later turns (Some found) late told = told

module _ {D : Type 0} (ghosts : Ghosts D) where
  -- nor does the cause of its answer
  turned_cause : (numbers later : SlotNumbers) (turns : ℕ) (name : List ℕ) (answer : Result (List ℕ) SlotFault) (late : Option ChangeId) (old new disks disks_after : List D)
      → PeekCause ghosts numbers later name answer late old new disks disks_after
      → PeekCause ghosts numbers (with_turns later turns) name answer late old new disks disks_after
  turned_cause numbers later turns name (Ok content) late old new disks disks_after cause = (cause.0, completes_turned numbers later turns cause.0.looked.pending late cause.1)
  turned_cause numbers later turns name (Err (Quorum fault)) late old new disks disks_after cause = cause
  turned_cause numbers later turns name (Err (Key why)) late old new disks disks_after cause = cause
  turned_cause numbers later turns name (Err SeqSpent) late old new disks disks_after cause = cause
  turned_cause numbers later turns name (Err (AuditFailed before after)) late old new disks disks_after cause = cause
  turned_cause numbers later turns name (Err NoMemory) late old new disks disks_after cause = cause
  turned_cause numbers later turns name (Err (NotInFlight id)) late old new disks disks_after cause = cause

  pub cause_turned : (numbers later : SlotNumbers) (turns : ℕ) (name : List ℕ) (answer : Result (List ℕ) SlotFault) (late : Option ChangeId) (old old_is new new_is disks disks_after : List D)
      → old_is ≡ old → new_is ≡ new → PeekCause ghosts numbers later name answer late old_is new_is disks disks_after
      → PeekCause ghosts numbers (with_turns later turns) name answer late old new disks disks_after
  cause_turned numbers later turns name answer late old old_is new new_is disks disks_after same_old same_new cause =
      turned_cause numbers later turns name answer late old new disks disks_after
      (subst (λ (l : List D). PeekCause ghosts numbers later name answer late old l disks disks_after) same_new
      (subst (λ (l : List D). PeekCause ghosts numbers later name answer late l new_is disks disks_after) same_old cause))

  -- and it is told by the entry that was written down
  pub told_cause : (numbers later : SlotNumbers) (name : List ℕ) (answer : Result (List ℕ) SlotFault) (late told : Option ChangeId) (old new disks disks_after : List D)
      → told ≡ late → PeekCause ghosts numbers later name answer late old new disks disks_after
      → PeekCause ghosts numbers later name answer told old new disks disks_after
  told_cause numbers later name answer late told old new disks disks_after same cause =
      subst (λ (l : Option ChangeId). PeekCause ghosts numbers later name answer l old new disks disks_after) (sym same) cause
