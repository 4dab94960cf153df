-- Drives that are struck by trouble, or stop, between two lives of a store.
use Rattle.std.specs.Prelude.{◌≡◌, ◌⊎◌, ℕ, ◌<◌, IsTrue, List, None}
use Rattle.std.specs.Int.{IsBitSet}
use Rattle.drive_base.specs.View.{AtEach, DriveView, view_at, views}
use Rattle.drive_base.specs.declared.drive.Drive.{Ghosts}
use Rattle.drive_base.specs.declared.plan.SetPlan.{SetPlan}
use Rattle.register_core.specs.OnLanes.{AreHonest}
use Rattle.slot_core.specs.declared.slot.SlotParts.{SlotParts}
use Rattle.slot_data.specs.Disks.{Disks}
use Rattle.op_steps.specs.Claims.{HasHonestManifests}
use Rattle.op_steps.specs.Leading.{Standing}
use Rattle.store_shared.specs.Holders.{AreLost, ArePartsAt, DrivesRest, RigHolds}
use Rattle.store_shared.specs.Opening.{with_out}
use Rattle.store_shared.specs.declared.pass.StoreParts.{StoreParts}

-- between two lives a drive was struck by trouble, or stopped: it tells as before and keeps what it kept; of files that were being written each stays or is gone
pub record IsStruck (old new : DriveView) : Type 0 where
  pub tells : new.tells ≡ old.tells
  pub kept : IsTrue old.tells → new.files.kept ≡ old.files.kept
  pub loose : IsTrue old.tells → (name : List ℕ) → (new.files.loose name ≡ old.files.loose name) ⊎ (new.files.loose name ≡ None)

-- so was each of some drives
abbrev pub AreStruck : List DriveView → List DriveView → Type 0
AreStruck old new = AtEach (λ k. IsStruck) old new

module _ {D A : Type 0} (ghosts : Ghosts D) where
  -- so were the lanes and the data drives of a store that rests, and what they show is honest, but where they are lost
  pub record RigIsStruck (set : SetPlan) (lost : ℕ) (old new : StoreParts D A) : Type 0 where
    pub disks : AreStruck (views ghosts old.disks.items) (views ghosts new.disks.items)
    pub manifests : (k : ℕ) → k < set.drives → (IsBitSet lost k → ⊥) → HasHonestManifests (view_at (views ghosts new.disks.items) k).files
    pub lanes : (k : ℕ) (now : SlotParts D A) → ArePartsAt new.slots.items k now
        → (was : SlotParts D A) × ArePartsAt old.slots.items k was × AreStruck (views ghosts was.lanes.items) (views ghosts now.lanes.items)
        × ((name : List ℕ) → AreHonest ghosts.files (with_out set lost).out name now.lanes.items)

module _ {D : Type 0} (A : Type 0) (ghosts : Ghosts D) where
  -- lanes and data drives that hold go on to, where they were struck between two lives
  abbrev pub StruckRigHolds : Type 0
  StruckRigHolds = (set : SetPlan) (used lost : ℕ) (unseen : Disks) (at : ℕ → Standing) (old new : StoreParts D A) → RigHolds ghosts set used lost unseen at old
      → RigIsStruck ghosts set lost old new → DrivesRest set used (views ghosts new.disks.items) → AreLost set used lost (views ghosts new.disks.items)
      → RigHolds ghosts set used lost unseen at new
