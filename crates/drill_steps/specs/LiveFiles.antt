-- No step of an actor takes files of live data away, whatever other actors do.
use Rattle.std.specs.Prelude.{◌≡◌, ℕ, IsTrue, [], ◌∷◌, Some}
use Rattle.desk_base.specs.Telling.{Effect}
use Rattle.drive_base.specs.View.{view_at}
use Rattle.drive_base.specs.declared.drive.Drive.{Ghosts}
use Rattle.drive_base.specs.declared.plan.SetPlan.{SetPlan}
use Rattle.receipts.specs.Events.{Event}
use Rattle.stamp_id.specs.declared.version.VersionId.{VersionId}
use Rattle.slot_history.specs.Standing.{Flying}
use Rattle.slot_data.specs.Disks.{Disks}
use Rattle.slot_data.specs.Live.{IsLiveData}
use Rattle.op_steps.specs.Claims.{Claim, disks_of}
use Rattle.op_steps.specs.Leading.{Standing}
use Rattle.op_steps.specs.Moves.{LosesFile}
use Rattle.op_steps.specs.Steps.{IsSlotAt}
use Rattle.op_steps.specs.Store.{SlotSeen}
use Rattle.op_steps.specs.declared.op.Op.{Ghosts as Ops}
use Rattle.drill_steps.specs.Laws.{WorldHolds}
use Rattle.drill_steps.specs.Worlds.{Steps, World}

-- an id is that of the put that an op has under way
abbrev pub IsOwnPut : Claim → VersionId → Type 0
IsOwnPut claim id = (f : Flying) × (claim.flight ≡ Some f) × (f.id ≡ id)

module _ {D O T : Type 0} (ghosts : Ghosts D) (takes breaks : Effect T) (ops : Ops O) where
  -- in a world that holds, a drive that tells loses no file of live data by an actor's step, but of the actor's own put, which is under way
  abbrev pub WorldKeepsFiles : Type 0
  WorldKeepsFiles = (set : SetPlan) (number : ℕ) (event : Event) (old new : World D O T) (unseen : Disks) (at : ℕ → Standing) (k : ℕ) (id : VersionId)
      (was : SlotSeen D) → WorldHolds ghosts set unseen at old → (x : Steps ghosts takes breaks ops set number (event ∷ []) old new)
      → IsSlotAt old.slots id.slot was
      → IsLiveData set (at id.slot).records (at id.slot).state was.holding (disks_of unseen set.out old.disks) id
      → IsTrue (view_at old.disks k).tells → LosesFile id (view_at old.disks k).files (view_at new.disks k).files → IsOwnPut x.claim id
