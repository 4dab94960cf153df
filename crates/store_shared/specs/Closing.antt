-- How the slots of a store are closed, and what a store leaves that is shut.
use Rattle.std.specs.Prelude.{◌≡◌, ℕ, ◌≤◌, List, ◌∷◌, [], ◌++◌, Option}
use Rattle.audit_trail.specs.declared.entry.Entry.{Entry}
use Rattle.drive_base.specs.View.{views}
use Rattle.drive_base.specs.declared.drive.Drive.{Ghosts}
use Rattle.slot_core.specs.Views.{audit_of, lanes_of}
use Rattle.slot_core.specs.declared.slot.Slot.{Slot}
use Rattle.slot_core.specs.declared.slot.SlotParts.{SlotParts}
use Rattle.op_steps.specs.Steps.{IsSlotAt}
use Rattle.op_steps.specs.Store.{SlotSeen, slots_seen}
use Rattle.store_shared.specs.Holders.{IsTakenApart}
use Rattle.store_shared.specs.Passes.{disks_of, slots_of}
use Rattle.store_shared.specs.declared.pass.PlainPass.{PlainPass}
use Rattle.store_shared.specs.declared.pass.StoreParts.{StoreParts}

module _ {D A : Type 0} where
  -- a slot was closed, and left this
  pub record SlotIsShut (slot : Slot D A) (parts : SlotParts D A) : Type 0 where
    pub lanes : parts.lanes.items ≡ lanes_of slot
    pub audit : parts.audit ≡ audit_of slot

  -- so were slots, in order
  abbrev pub SlotsAreShut : List (Slot D A) → List (SlotParts D A) → Type 0
  SlotsAreShut [] parts = parts ≡ []
  SlotsAreShut (slot ∷ slots) parts = (first : SlotParts D A) × (rest : List (SlotParts D A)) × (parts ≡ first ∷ rest) × SlotIsShut slot first
      × SlotsAreShut slots rest

  -- what they left stands behind what was there
  abbrev pub ShutBehind : List (Slot D A) → List (SlotParts D A) → List (SlotParts D A) → Type 0
  ShutBehind slots old new = (more : List (SlotParts D A)) × (new ≡ old ++ more) × SlotsAreShut slots more

  -- a store was shut, and left this
  pub record StoreIsShut (pass : PlainPass D A) (parts : StoreParts D A) : Type 0 where
    pub slots : SlotsAreShut (slots_of pass) parts.slots.items
    pub disks : parts.disks.items ≡ disks_of pass

module _ {D A : Type 0} (ghosts : Ghosts D) (entries : A → Option (List Entry)) (count : A → ℕ) where
  -- a store was taken apart of which no slot is of a term above this one, as the laws of lives speak of it
  abbrev pub IsPassApart : PlainPass D A → StoreParts D A → Type 0
  IsPassApart pass parts = (used : ℕ) → ((k : ℕ) (was : SlotSeen D) → IsSlotAt (slots_seen entries count (slots_of pass)) k was → was.numbers.term ≤ used)
      → IsTakenApart ghosts used (slots_seen entries count (slots_of pass)) (views ghosts (disks_of pass)) parts
