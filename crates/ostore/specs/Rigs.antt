-- The rig of a run.
use Rattle.std.specs.Prelude.{◌≡◌, ℕ, ◌<◌, List, [], ◌∷◌, Vec, length, slice_index_or}
use Rattle.std.specs.Global.{Global}
use Rattle.drive_base.specs.declared.plan.SetPlan.{SetPlan}
use Rattle.slot_core.specs.declared.slot.SlotParts.{SlotParts}
use Rattle.store_shared.specs.Closing.{SlotsAreShut}
use Rattle.store_shared.specs.Passes.{disks_of, slots_of}
use Rattle.store_shared.specs.declared.pass.StoreParts.{StoreParts}
use Rattle.store_shared.specs.declared.pass.PlainPass.{PlainPass}
use Rattle.ostore.specs.declared.rig.Rig.{Rig}

module _ {D A : Type 0} where
  -- a slot has so many lanes
  abbrev pub HasLanes : ℕ → SlotParts D A → Type 0
  HasLanes drives parts = length parts.lanes.items ≡ drives

  -- a rig has one row of data drives, with one for each drive of the set
  pub record HasOneRow (set : SetPlan) (rig : Rig D A) : Type 0 where
    pub row : Vec D Global
    pub rows : rig.data.items ≡ row ∷ []
    pub disks : length row.items ≡ set.drives

  -- a rig is that of a store of this set: a lane of each of 64 slots and a data drive for each drive
  pub record IsRigOf (set : SetPlan) (rig : Rig D A) : Type 0 where
    pub set_is : rig.set ≡ set
    pub slots : length rig.slots.items ≡ 64
    pub lanes : (k : ℕ) (d : SlotParts D A) → k < length rig.slots.items → length (slice_index_or rig.slots.items k d).lanes.items ≡ set.drives
    pub row : HasOneRow set rig

  -- the store's parts of a rig: its slots, and its one row
  pub record ArePartsOf (rig : Rig D A) (parts : StoreParts D A) : Type 0 where
    pub slots : parts.slots.items ≡ rig.slots.items
    pub disks : rig.data.items ≡ parts.disks ∷ []

  -- a store was closed, and left this rig, of the same set
  pub record StoreIsClosed (set : SetPlan) (pass : PlainPass D A) (rig : Rig D A) : Type 0 where
    pub set_is : rig.set ≡ set
    pub slots : SlotsAreShut (slots_of pass) rig.slots.items
    pub row : Vec D Global
    pub rows : rig.data.items ≡ row ∷ []
    pub disks : row.items ≡ disks_of pass
