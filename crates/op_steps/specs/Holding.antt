-- What holds of the data of a store between two calls.
use Rattle.std.specs.Prelude.{ℕ, Bool, List}
use Rattle.drive_base.specs.Files.{Files}
use Rattle.drive_base.specs.View.{DriveView}
use Rattle.slot_data.specs.Disks.{Disks}
use Rattle.op_steps.specs.Claims.{Claim, DataHolds}
use Rattle.op_steps.specs.Leading.{Standing}
use Rattle.op_steps.specs.Steps.{IsSlotAt}
use Rattle.op_steps.specs.Store.{LanesStand, SlotSeen}

module _ {D : Type 0} (tells : D → Bool) (files : D → Files) where
  -- the lanes of a slot stand for this, with which its data holds, where these claims are all that is in hand
  pub record SlotHolds (unseen : Disks) (disks : List DriveView) (claims : List Claim) (at : Standing) (was : SlotSeen D) : Type 0 where
    pub stands : LanesStand tells files was at.records at.state
    pub holds : DataHolds was.numbers was.holding unseen disks claims at.records at.state

  -- the data of each slot holds between two calls, with what its lanes stand for and with what earlier calls left in hand
  abbrev pub StoreHolds : Disks → List (SlotSeen D) → List DriveView → List Claim → (ℕ → Standing) → Type 0
  StoreHolds unseen slots disks claims at = (k : ℕ) (was : SlotSeen D) → IsSlotAt slots k was → SlotHolds unseen disks claims (at k) was
