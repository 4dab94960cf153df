-- What trouble between two steps does to a store, where the damage is honest.
use Rattle.std.specs.Prelude.{◌≡◌, ℕ, ◌<◌, List, length}
use Rattle.std.specs.Int.{IsBitSet}
use Rattle.drive_base.specs.declared.drive.Drive.{Ghosts}
use Rattle.drive_base.specs.declared.plan.SetPlan.{SetPlan}
use Rattle.drive_base.specs.View.{AtEach, DriveView, view_at, views}
use Rattle.register_core.specs.OnLanes.{AreHonest}
use Rattle.slot_data.specs.Disks.{Disks}
use Rattle.op_steps.specs.Claims.{Claim, HasHonestManifests}
use Rattle.op_steps.specs.Holding.{StoreHolds}
use Rattle.op_steps.specs.Leading.{Standing}
use Rattle.op_steps.specs.Steps.{IsSlotAt}
use Rattle.op_steps.specs.Store.{AreInOrder, SlotSeen}
use Rattle.op_steps.specs.Troubles.{IsTroubled}

module _ {D : Type 0} (ghosts : Ghosts D) where
  -- trouble befell the lanes of a slot, and all else of it stays
  pub record SlotTroubled (was now : SlotSeen D) : Type 0 where
    pub numbers : now.numbers ≡ was.numbers
    pub holding : now.holding ≡ was.holding
    pub entries : now.entries ≡ was.entries
    pub faults : now.faults ≡ was.faults
    pub lanes : AtEach (λ k. IsTroubled) (views ghosts was.lanes) (views ghosts now.lanes)

  -- so it befell a store: the lanes of each slot, and its data drives
  pub record StoreTroubled (slots_old : List (SlotSeen D)) (disks_old : List DriveView) (slots_new : List (SlotSeen D)) (disks_new : List DriveView) : Type 0 where
    pub count : length slots_new ≡ length slots_old
    pub slots : (k : ℕ) (now : SlotSeen D) → IsSlotAt slots_new k now → (was : SlotSeen D) × IsSlotAt slots_old k was × SlotTroubled was now
    pub disks : AtEach (λ k. IsTroubled) disks_old disks_new

  -- what lanes and data drives in use show is honest
  pub record ShowsHonestly (set : SetPlan) (slots : List (SlotSeen D)) (disks : List DriveView) : Type 0 where
    pub lanes : (k : ℕ) (now : SlotSeen D) → IsSlotAt slots k now → (name : List ℕ) → AreHonest ghosts.files now.numbers.set.out name now.lanes
    pub manifests : (k : ℕ) → k < set.drives → (IsBitSet set.out k → ⊥) → HasHonestManifests (view_at disks k).files

  -- over trouble whose damage is honest the data of each slot goes on to hold, with what its lanes stood for
  abbrev pub TroubleKeepsData : Type 0
  TroubleKeepsData = (set : SetPlan) (slots : List (SlotSeen D)) (disks : List DriveView) (slots_after : List (SlotSeen D)) (disks_after : List DriveView)
      (unseen : Disks) (claims : List Claim) (at : ℕ → Standing)
      → AreInOrder set slots disks → StoreTroubled slots disks slots_after disks_after → ShowsHonestly set slots_after disks_after
      → StoreHolds ghosts.tells ghosts.files unseen slots disks claims at → StoreHolds ghosts.tells ghosts.files unseen slots_after disks_after claims at
