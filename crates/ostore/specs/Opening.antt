-- How a store is opened over a rig, and the rig handed back.
use Rattle.std.specs.Prelude.{◌≡◌, ◌⊎◌, ℕ, ◌≤◌, List, [], ◌∷◌, ◌++◌, reverse, Option, Result, Ok, Err, vec_capacity}
use Rattle.audit_trail.specs.Entries.{with_entry}
use Rattle.audit_trail.specs.declared.entry.Entry.{Entry}
use Rattle.drive_base.specs.View.{views}
use Rattle.drive_base.specs.declared.drive.Drive.{Ghosts}
use Rattle.drive_base.specs.declared.plan.SetPlan.{SetPlan}
use Rattle.slot_core.specs.Opening.{opening}
use Rattle.slot_core.specs.declared.slot.SlotParts.{SlotParts}
use Rattle.store_shared.specs.Closing.{ShutBehind}
use Rattle.store_shared.specs.Opening.{AuditRefuses, IsTermTaken}
use Rattle.store_shared.specs.OpeningAll.{StoreIsOpen}
use Rattle.store_shared.specs.declared.pass.NotOpened.{NotOpened}
use Rattle.store_shared.specs.declared.pass.StoreParts.{StoreParts}
use Rattle.term_gate.specs.Opening.{Opens}
use Rattle.term_gate.specs.declared.opening.Opened.{Opened}
use Rattle.term_gate.specs.declared.refusal.OpenRefusal.{OpenRefusal}
use Rattle.term_gate.specs.declared.refusal.OpenRefusal.TheVariants.{NoMemory}
use Rattle.ostore.specs.Rigs.{ArePartsOf}
use Rattle.ostore.specs.declared.opening.Away.{Away}
use Rattle.ostore.specs.declared.opening.Shop.{Shop}
use Rattle.ostore.specs.declared.opening.Shut.{Shut}
use Rattle.ostore.specs.declared.rig.Rig.{Rig}

module _ {D A : Type 0} where
  -- there is room for the lanes and audits of 64 slots, and for one row of drives
  pub record IsAway (away : Away D A) : Type 0 where
    pub empty : away.home.items ≡ []
    pub room : 64 ≤ vec_capacity away.home
    pub no_rows : away.data.items ≡ []
    pub room_for_row : 1 ≤ vec_capacity away.data

  -- a store that was not opened is a rig of this set again: what was not opened, and behind it what its open slots gave back
  pub record IsShut (set : SetPlan) (back : NotOpened D A) (shut : Shut D A) : Type 0 where
    pub why : shut.why ≡ back.why
    pub set_is : shut.rig.set ≡ set
    pub slots : ShutBehind (reverse back.slots.items) back.parts.slots.items shut.rig.slots.items
    pub disks : shut.rig.data.items ≡ back.parts.disks ∷ []

module _ {D A : Type 0} (ghosts : Ghosts D) (entries : A → Option (List Entry)) (count : A → ℕ) where
  -- a slot was opened and closed again: its lanes stay, and its audit has the entry of the opening more, and no fault more
  pub record IsLeft (term : ℕ) (was now : SlotParts D A) : Type 0 where
    pub lanes : now.lanes.items ≡ was.lanes.items
    pub audit : entries now.audit ≡ with_entry (entries was.audit) (opening term)
    pub counted : count now.audit ≡ count was.audit

  abbrev pub AreLeft : ℕ → List (SlotParts D A) → List (SlotParts D A) → Type 0
  AreLeft term [] new = new ≡ []
  AreLeft term (was ∷ old) new = (now : SlotParts D A) × (rest : List (SlotParts D A)) × (new ≡ now ∷ rest) × IsLeft term was now × AreLeft term old rest

  -- the set took a new term, and then the audit of one slot refused the opening: this slot has its lanes and entries, the slots before it are as they were,
  -- and those behind it were opened and closed again
  pub record SlotIsRefused (set : SetPlan) (why : OpenRefusal) (parts left : StoreParts D A) : Type 0 where
    pub opened : Opened
    pub taken : IsTermTaken set opened (views ghosts parts.disks.items) (views ghosts left.disks.items)
    pub front : List (SlotParts D A)
    pub was : SlotParts D A
    pub now : SlotParts D A
    pub behind : List (SlotParts D A)
    pub behind_left : List (SlotParts D A)
    pub old_is : parts.slots.items ≡ front ++ was ∷ behind
    pub new_is : left.slots.items ≡ front ++ now ∷ behind_left
    pub lanes : now.lanes.items ≡ was.lanes.items
    pub entries_stay : entries now.audit ≡ entries was.audit
    pub cause : AuditRefuses why (count was.audit) (count now.audit)
    pub others : AreLeft opened.term behind behind_left

  -- the set was refused, or there was no memory, and no slot was begun
  pub record SetIsRefused (set : SetPlan) (why : OpenRefusal) (parts left : StoreParts D A) : Type 0 where
    pub slots : left.slots.items ≡ parts.slots.items
    pub cause : Opens set (Err why) (views ghosts parts.disks.items) (views ghosts left.disks.items)
        ⊎ ((why ≡ NoMemory) × (views ghosts left.disks.items ≡ views ghosts parts.disks.items))

  -- the store was not opened over a rig, and the rig is handed back
  pub record NotOpens (rig after : Rig D A) (why : OpenRefusal) : Type 0 where
    pub parts : StoreParts D A
    pub are : ArePartsOf rig parts
    pub left : StoreParts D A
    pub is : ArePartsOf after left
    pub set_is : after.set ≡ rig.set
    pub cause : SlotIsRefused rig.set why parts left ⊎ SetIsRefused rig.set why parts left

  -- the store is open over a rig
  pub record IsShop (rig : Rig D A) (shop : Shop D A) : Type 0 where
    pub parts : StoreParts D A
    pub are : ArePartsOf rig parts
    pub opens : StoreIsOpen ghosts entries count rig.set parts shop.pass
    pub away : IsAway shop.away
    pub set_is : shop.away.set ≡ rig.set

  -- what opening a store over a rig answers
  abbrev pub OpensRig : Rig D A → Result (Shop D A) (Shut D A) → Type 0
  OpensRig rig (Ok shop) = IsShop rig shop
  OpensRig rig (Err shut) = NotOpens rig shut.rig shut.why
