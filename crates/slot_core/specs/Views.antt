-- What is seen of a slot: its numbers, and what it keeps in memory, as plain data.
use Rattle.std.specs.Prelude.{ℕ, ◌+◌, ◌*◌, ◌^◌, List, map}
use Rattle.drive_base.specs.Plan.{write_drives}
use Rattle.drive_base.specs.declared.plan.SetPlan.{SetPlan}
use Rattle.slot_data.specs.Holding.{Holding}
use Rattle.slot_data.specs.Rows.{flying_of, pinned_of}
use Rattle.slot_data.specs.declared.rows.PinRow.{PinRow}
use Rattle.slot_core.specs.declared.slot.Slot.{Slot}

-- the numbers of a slot: its set, its index, the term of this life, how many sections it did, the last number that it drew in this term, and the number
-- of the next loose name
pub record SlotNumbers : Type 0 where
  pub set : SetPlan
  pub index : ℕ
  pub term : ℕ
  pub turns : ℕ
  pub seq : ℕ
  pub count : ℕ

-- the last number that a slot drew, as the number of a change or a ballot
abbrev pub last_of : SlotNumbers → ℕ
last_of numbers = numbers.term * 2 ^ 64 + numbers.seq

-- how many lanes must take a write
abbrev pub quorum_of : SlotNumbers → ℕ
quorum_of numbers = write_drives numbers.set.drives numbers.set.parity

module _ {D A : Type 0} where
  -- the numbers of a slot
  abbrev pub numbers_of : Slot D A → SlotNumbers
  numbers_of slot = record { set = slot.site.set; index = slot.site.index; term = slot.site.term; turns = slot.site.turns; seq = slot.drawn.seq; count = slot.drawn.count }

  -- what it keeps in memory
  abbrev pub holding_of : Slot D A → Holding
  holding_of slot = record { flights = map flying_of slot.flights.items; pins = map pinned_of slot.pins.items; trash = slot.trash.items }

  -- the rows of its pins
  abbrev pub pins_of : Slot D A → List PinRow
  pins_of slot = slot.pins.items

  -- its lanes and its audit
  abbrev pub lanes_of : Slot D A → List D
  lanes_of slot = slot.lanes.items

  abbrev pub audit_of : Slot D A → A
  audit_of slot = slot.audit
