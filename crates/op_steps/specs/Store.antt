-- What is seen of a store while an op works on it: its slots, its data drives, what the op holds of them, and its feed and teller.
use Rattle.std.specs.Prelude.{◌≡◌, ℕ, ◌<◌, Bool, List, length, map, slice_index_or, Option}
use Rattle.audit_trail.specs.declared.entry.Entry.{Entry}
use Rattle.call_types.specs.Feeds.{FeedView}
use Rattle.desk_base.specs.Telling.{Effect}
use Rattle.drive_base.specs.Files.{Files}
use Rattle.drive_base.specs.View.{DriveView}
use Rattle.drive_base.specs.declared.plan.SetPlan.{SetPlan}
use Rattle.slot_history.specs.Standing.{Records}
use Rattle.slot_history.specs.State.{State}
use Rattle.slot_data.specs.Holding.{Holding}
use Rattle.slot_core.specs.Standing.{SlotStands}
use Rattle.slot_core.specs.Views.{SlotNumbers, audit_of, holding_of, lanes_of, numbers_of}
use Rattle.slot_core.specs.declared.slot.Slot.{Slot}
use Rattle.op_steps.specs.Claims.{Claim}

-- a slot: its numbers, what it keeps in memory, its lanes, and the entries of its audit, told or not, with the audit's count of faults
pub record SlotSeen (D : Type 0) : Type 0 where
  pub numbers : SlotNumbers
  pub holding : Holding
  pub lanes : List D
  pub entries : Option (List Entry)
  pub faults : ℕ

-- that of a slot, with what its audit says of itself
abbrev pub slot_seen : {D A : Type 0} → (A → Option (List Entry)) → (A → ℕ) → Slot D A → SlotSeen D
slot_seen entries count slot = record {
  numbers = numbers_of slot;
  holding = holding_of slot;
  lanes = lanes_of slot;
  entries = entries (audit_of slot);
  faults = count (audit_of slot);
}

abbrev pub slots_seen : {D A : Type 0} → (A → Option (List Entry)) → (A → ℕ) → List (Slot D A) → List (SlotSeen D)
slots_seen entries count slots = map (slot_seen entries count) slots

-- a feed or its source: what is seen of it, and the count of faults
pub record FeedSeen : Type 0 where
  pub view : FeedView
  pub faults : ℕ

-- a teller, and the count of faults of the sink below it
pub record TellerSeen (T : Type 0) : Type 0 where
  pub value : T
  pub faults : ℕ

-- that of a teller
abbrev pub teller_of : {T : Type 0} → T → ℕ → TellerSeen T
teller_of teller faults = record { value = teller; faults = faults }

-- what a telling does to a teller of which only the count of faults is seen
abbrev pub any_effect : Effect (Unit {0})
any_effect old telling new = Unit {0}

-- a store, as one op has it, with a teller: of its slots there is seen what its desk gives
pub record StoreOver (S T : Type 0) : Type 0 where
  pub slots : S
  pub disks : List DriveView
  pub claim : Claim
  pub feed : FeedSeen
  pub teller : TellerSeen T

-- one with slots over drives of one type
abbrev pub Store : Type 0 → Type 0 → Type 0
Store D T = StoreOver (List (SlotSeen D)) T

-- a store of these parts
abbrev pub store_of : {S T : Type 0} → S → List DriveView → Claim → FeedSeen → TellerSeen T → StoreOver S T
store_of slots disks claim feed teller = record { slots = slots; disks = disks; claim = claim; feed = feed; teller = teller }

-- the slots are of one set, and stand in the order of their indices, 64 of them
pub record AreInOrder {D : Type 0} (set : SetPlan) (slots : List (SlotSeen D)) (disks : List DriveView) : Type 0 where
  pub count : length slots ≡ 64
  pub index : (k : ℕ) (d : SlotSeen D) → k < length slots → (slice_index_or slots k d).numbers.index ≡ k
  pub set_is : (k : ℕ) (d : SlotSeen D) → k < length slots → (slice_index_or slots k d).numbers.set ≡ set
  pub drives : length disks ≡ set.drives

module _ {D : Type 0} (tells : D → Bool) (files : D → Files) where
  -- the lanes of a slot stand for a state
  abbrev pub LanesStand : SlotSeen D → Records → State → Type 0
  LanesStand slot records state = SlotStands tells files slot.numbers slot.holding.flights slot.lanes records state
