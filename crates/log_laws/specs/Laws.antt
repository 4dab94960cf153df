-- The laws of steps: histories run, data drives keep what is no data, and the data of each slot goes on to hold.
use Rattle.std.specs.Prelude.{◌≡◌, ℕ, ◌<◌, Bool, List, [], ◌∷◌, ◌++◌}
use Rattle.desk_base.specs.Telling.{Effect}
use Rattle.drive_base.specs.Files.{Files}
use Rattle.drive_base.specs.declared.drive.Drive.{Ghosts}
use Rattle.drive_base.specs.declared.plan.SetPlan.{SetPlan}
use Rattle.slot_data.specs.Disks.{Disks}
use Rattle.receipts.specs.Events.{Event, Log}
use Rattle.op_steps.specs.Claims.{Claim, DataHolds, among}
use Rattle.op_steps.specs.Leading.{LeadsTo, Standing, entered_at, WentOn}
use Rattle.op_steps.specs.Moves.{DrivesKeep}
use Rattle.op_steps.specs.Steps.{IsSlotAt, Ran, StepMoves}
use Rattle.op_steps.specs.Store.{AreInOrder, LanesStand, SlotSeen, Store}

-- each slot is led so by its entries in a log
abbrev pub AllLead : SetPlan → Log → (ℕ → Standing) → (ℕ → Standing) → Type 0
AllLead set log at later = (slot : ℕ) → LeadsTo set slot (entered_at slot log) (at slot) (later slot)

-- no entry leads a slot to where it is, and logs lead one after another
abbrev pub LeadsStay : Type 0
LeadsStay = (set : SetPlan) (slot : ℕ) (at : Standing) → LeadsTo set slot [] at at

abbrev pub LeadsJoin : Type 0
LeadsJoin = (set : SetPlan) (one two : Log) (at mid later : ℕ → Standing) → AllLead set one at mid → AllLead set two mid later
    → AllLead set (one ++ two) at later

module _ {D T : Type 0} (tells : D → Bool) (files : D → Files) where
  -- the lanes of a slot stand for this, with which its data holds, with these files on the drives that are out
  pub record HoldsAfter (unseen : Disks) (store : Store D T) (front rest : List Claim) (at : Standing) (now : SlotSeen D) : Type 0 where
    pub stands : LanesStand tells files now at.records at.state
    pub holds : DataHolds now.numbers now.holding unseen store.disks (among front store.claim rest) at.records at.state

  -- the data of each slot of a store holds, with what its lanes stand for
  abbrev pub AllHold : Disks → Store D T → List Claim → List Claim → (ℕ → Standing) → Type 0
  AllHold unseen store front rest at = (k : ℕ) (was : SlotSeen D) → IsSlotAt store.slots k was → HoldsAfter unseen store front rest (at k) was

  -- the data of each slot of a store holds after a log, with what the entries of the log lead to
  pub record HoldsLater (set : SetPlan) (log : Log) (unseen : Disks) (store : Store D T) (front rest : List Claim) (at : ℕ → Standing) : Type 0 where
    pub later : ℕ → Standing
    pub lead : AllLead set log at later
    pub holds : AllHold unseen store front rest later

module _ {D T : Type 0} (ghosts : Ghosts D) (takes breaks : Effect T) where
  -- over a log each slot goes on by its entries in it, and the slots stay in order
  abbrev pub RanKeepsHistory : Type 0
  RanKeepsHistory = (set : SetPlan) (log : Log) (old new : Store D T) → AreInOrder set old.slots old.disks → Ran ghosts takes breaks set log old new
      → AreInOrder set new.slots new.disks
      × ((k : ℕ) (was now : SlotSeen D) → IsSlotAt old.slots k was → IsSlotAt new.slots k now
      → WentOn ghosts.tells ghosts.files k was now (entered_at k log))

  -- over a log the data drives go on, and keep what is no data
  abbrev pub RanKeepsFiles : Type 0
  RanKeepsFiles = (set : SetPlan) (log : Log) (old new : Store D T) → Ran ghosts takes breaks set log old new → DrivesKeep old.disks new.disks

  -- one step of one op, whatever other ops hold and drives that are out keep, keeps the data of every slot; and the op stays at its slot
  abbrev pub EachStepKeepsData : Type 0
  EachStepKeepsData = (set : SetPlan) (event : Event) (old new : Store D T) (unseen : Disks) (front rest : List Claim) (at : ℕ → Standing)
      → AreInOrder set old.slots old.disks → old.claim.slot < 64 → StepMoves ghosts takes breaks set event old new
      → AllHold ghosts.tells ghosts.files unseen old front rest at
      → (new.claim.slot ≡ old.claim.slot) × HoldsLater ghosts.tells ghosts.files set (event ∷ []) unseen new front rest at

  -- so does a whole log of one op
  abbrev pub LogKeepsData : Type 0
  LogKeepsData = (set : SetPlan) (log : Log) (old new : Store D T) (unseen : Disks) (front rest : List Claim) (at : ℕ → Standing)
      → AreInOrder set old.slots old.disks → old.claim.slot < 64 → Ran ghosts takes breaks set log old new
      → AllHold ghosts.tells ghosts.files unseen old front rest at
      → (new.claim.slot ≡ old.claim.slot) × HoldsLater ghosts.tells ghosts.files set log unseen new front rest at
