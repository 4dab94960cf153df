-- No step takes files of live data away.
use Rattle.std.specs.Prelude.{◌≡◌, ℕ, ◌<◌, IsTrue, List, Some}
use Rattle.desk_base.specs.Telling.{Effect}
use Rattle.drive_base.specs.View.{view_at}
use Rattle.drive_base.specs.declared.drive.Drive.{Ghosts}
use Rattle.drive_base.specs.declared.plan.SetPlan.{SetPlan}
use Rattle.receipts.specs.Events.{Event}
use Rattle.stamp_id.specs.declared.version.VersionId.{VersionId}
use Rattle.slot_history.specs.Contents.{NamedData}
use Rattle.slot_history.specs.Standing.{Flying}
use Rattle.slot_data.specs.Disks.{Disks}
use Rattle.slot_data.specs.Live.{IsLiveData, IsNamed}
use Rattle.op_steps.specs.Claims.{Claim, disks_of}
use Rattle.log_laws.specs.Laws.{AllHold}
use Rattle.op_steps.specs.Leading.{Standing}
use Rattle.op_steps.specs.Moves.{LosesFile}
use Rattle.op_steps.specs.Steps.{IsSlotAt, StepMoves}
use Rattle.op_steps.specs.Store.{AreInOrder, SlotSeen, Store}

module _ {D T : Type 0} (ghosts : Ghosts D) (takes breaks : Effect T) where
  -- where the data of each slot holds, a drive that tells loses no file of live data in a step, but of the op's own put, which is under way
  abbrev pub LiveFilesStay : Type 0
  LiveFilesStay = (set : SetPlan) (event : Event) (old new : Store D T) (unseen : Disks) (front rest : List Claim) (at : ℕ → Standing) (k : ℕ) (id : VersionId)
      (was : SlotSeen D) → AreInOrder set old.slots old.disks → old.claim.slot < 64 → StepMoves ghosts takes breaks set event old new
      → AllHold ghosts.tells ghosts.files unseen old front rest at → IsSlotAt old.slots id.slot was
      → IsLiveData set (at id.slot).records (at id.slot).state was.holding (disks_of unseen set.out old.disks) id
      → IsTrue (view_at old.disks k).tells → LosesFile id (view_at old.disks k).files (view_at new.disks k).files
      → (f : Flying) × (old.claim.flight ≡ Some f) × (f.id ≡ id)

  -- so none of data that a register of its slot names: no manifest, and no shard of a body that was put at once
  abbrev pub NamedFilesStay : Type 0
  NamedFilesStay = (set : SetPlan) (event : Event) (old new : Store D T) (unseen : Disks) (front rest : List Claim) (at : ℕ → Standing) (k : ℕ) (id : VersionId)
      (was : SlotSeen D) (name : List ℕ) (named : NamedData) → AreInOrder set old.slots old.disks → old.claim.slot < 64
      → StepMoves ghosts takes breaks set event old new → AllHold ghosts.tells ghosts.files unseen old front rest at → IsSlotAt old.slots id.slot was
      → IsNamed (at id.slot).state name named → named.id ≡ id
      → IsTrue (view_at old.disks k).tells → LosesFile id (view_at old.disks k).files (view_at new.disks k).files → ⊥
