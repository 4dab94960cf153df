-- What a call leaves of the data of a store: it goes on to hold, with the claims that the call leaves.
use Rattle.std.specs.Prelude.{◌≡◌, ℕ, ◌<◌, Bool, List, [], ◌++◌, Contains}
use Rattle.desk_base.specs.Telling.{Effect}
use Rattle.drive_base.specs.Files.{Files}
use Rattle.drive_base.specs.declared.drive.Drive.{Ghosts}
use Rattle.drive_base.specs.View.{DriveView}
use Rattle.drive_base.specs.declared.plan.SetPlan.{SetPlan}
use Rattle.receipts.specs.Events.{Log}
use Rattle.receipts.specs.Events.Event.{BarredFrom}
use Rattle.receipts.specs.declared.barred.Barred.{Barred}
use Rattle.slot_data.specs.Disks.{Disks}
use Rattle.op_steps.specs.Claims.{Claim, no_claim}
use Rattle.log_laws.specs.Laws.{AllLead}
use Rattle.op_steps.specs.Leading.{Standing}
use Rattle.op_steps.specs.Steps.{Ran}
use Rattle.op_steps.specs.Store.{AreInOrder, SlotSeen, Store}
use Rattle.op_steps.specs.Words.{LetsGo}
use Rattle.op_steps.specs.Holding.{StoreHolds}

-- each claim that is left is of a slot of which a section could not be done, and has no id that was taken from the trash
abbrev pub AreLeft : List Claim → Log → Type 0
AreLeft claims log = (c : Claim) → Contains claims c → (c.taken ≡ []) × ((why : Barred) × Contains log (BarredFrom c.slot why))

module _ {D : Type 0} (tells : D → Bool) (files : D → Files) where
  -- the data of each slot holds after a log, with what the entries of the log lead to, and with the claims that are left beside those that were
  pub record StoreHoldsLater (set : SetPlan) (log : Log) (unseen : Disks) (slots : List (SlotSeen D)) (disks : List DriveView) (claims : List Claim)
      (at : ℕ → Standing) : Type 0 where
    pub left : List Claim
    pub are_left : AreLeft left log
    pub later : ℕ → Standing
    pub lead : AllLead set log at later
    pub holds : StoreHolds tells files unseen slots disks (claims ++ left) later

module _ {D T : Type 0} (ghosts : Ghosts D) (takes breaks : Effect T) where
  -- over a call, which lets go of its claim or leaves it, the data of each slot goes on to hold
  abbrev pub CallKeepsData : Type 0
  CallKeepsData = (set : SetPlan) (log : Log) (old new : Store D T) (unseen : Disks) (claims : List Claim) (at : ℕ → Standing)
      → AreInOrder set old.slots old.disks → old.claim.slot < 64 → old.claim ≡ no_claim old.claim.slot
      → Ran ghosts takes breaks set log old new → LetsGo new.claim log
      → StoreHolds ghosts.tells ghosts.files unseen old.slots old.disks claims at
      → StoreHoldsLater ghosts.tells ghosts.files set log unseen new.slots new.disks claims at
