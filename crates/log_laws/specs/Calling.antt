-- Calls on a store, one after another.
use Rattle.std.specs.Prelude.{◌≡◌, ℕ, List, [], ◌∷◌, ◌++◌}
use Rattle.drive_base.specs.declared.drive.Drive.{Ghosts}
use Rattle.drive_base.specs.View.{DriveView}
use Rattle.drive_base.specs.declared.plan.SetPlan.{SetPlan}
use Rattle.slot_data.specs.Disks.{Disks}
use Rattle.receipts.specs.Events.{Log}
use Rattle.op_steps.specs.Claims.{Claim}
use Rattle.op_steps.specs.Holding.{StoreHolds}
use Rattle.log_laws.specs.Keeping.{StoreHoldsLater}
use Rattle.op_steps.specs.Moves.{DrivesKeep}
use Rattle.op_steps.specs.Leading.{WentOn, Standing, entered_at}
use Rattle.op_steps.specs.Steps.{IsSlotAt}
use Rattle.op_steps.specs.Store.{AreInOrder, SlotSeen}
use Rattle.op_steps.specs.Going.{CallRan}

-- the logs of several calls as one
abbrev pub joined : List Log → Log
joined [] = []
joined (log ∷ logs) = log ++ joined logs

module _ {D : Type 0} (ghosts : Ghosts D) (set : SetPlan) where
  -- the logs of several calls lead, one after another, from a store to another
  abbrev pub CallsRan : List Log → List (SlotSeen D) → List DriveView → List (SlotSeen D) → List DriveView → Type 0
  CallsRan [] slots disks slots_after disks_after = (slots_after ≡ slots) × (disks_after ≡ disks)
  CallsRan (log ∷ logs) slots disks slots_after disks_after = (mid_slots : List (SlotSeen D)) × (mid_disks : List DriveView)
      × CallRan ghosts set log slots disks mid_slots mid_disks × CallsRan logs mid_slots mid_disks slots_after disks_after

  -- each slot goes on by its entries in a log
  abbrev pub AllWent : Log → List (SlotSeen D) → List (SlotSeen D) → Type 0
  AllWent log slots slots_after = (k : ℕ) (was now : SlotSeen D) → IsSlotAt slots k was → IsSlotAt slots_after k now
      → WentOn ghosts.tells ghosts.files k was now (entered_at k log)

  -- the data of each slot goes on to hold over a log, with what its entries lead to, and with what its calls leave in hand
  abbrev pub HoldsOn : Log → List (SlotSeen D) → List DriveView → List (SlotSeen D) → List DriveView → Type 0
  HoldsOn log slots disks slots_after disks_after = (unseen : Disks) (claims : List Claim) (at : ℕ → Standing)
      → StoreHolds ghosts.tells ghosts.files unseen slots disks claims at
      → StoreHoldsLater ghosts.tells ghosts.files set log unseen slots_after disks_after claims at

  -- what a log leaves: the slots stay in order, each goes on by its entries, data drives keep what is no data, and the data of each slot goes on to hold
  pub record StoreWent (log : Log) (slots : List (SlotSeen D)) (disks : List DriveView) (slots_after : List (SlotSeen D)) (disks_after : List DriveView) : Type 0 where
    pub in_order : AreInOrder set slots_after disks_after
    pub slots_went : AllWent log slots slots_after
    pub drives : DrivesKeep disks disks_after
    pub holds : HoldsOn log slots disks slots_after disks_after

  -- so do the logs of calls one after another, as one
  abbrev pub CallsKeep : Type 0
  CallsKeep = (logs : List Log) (slots : List (SlotSeen D)) (disks : List DriveView) (slots_after : List (SlotSeen D)) (disks_after : List DriveView)
      → AreInOrder set slots disks → CallsRan logs slots disks slots_after disks_after → StoreWent (joined logs) slots disks slots_after disks_after
