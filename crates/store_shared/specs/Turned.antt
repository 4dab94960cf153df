-- A slot behind a turn lock.
use Rattle.std.specs.Prelude.{ℕ, List, map}
use Rattle.drive_base.specs.declared.plan.SetPlan.{SetPlan}
use Rattle.slot_core.specs.Views.{numbers_of}
use Rattle.slot_core.specs.declared.slot.Slot.{Slot}
use Rattle.turn_lock.specs.Passes.{made_with}
use Rattle.turn_lock.specs.declared.lock.TurnLock.{TurnLock}
use Rattle.store_shared.specs.declared.shared.TurnedSlot.{TurnedSlot}

-- what no turn of a slot changes: its set and its index
pub record SlotName : Type 0 where
  pub set : SetPlan
  pub index : ℕ

module _ {D A : Type 0} where
  -- the slot
  abbrev pub slot_in : TurnedSlot D A → Slot D A
  slot_in turned = turned.slot

  abbrev pub name_of : TurnedSlot D A → SlotName
  name_of turned = record { set = (numbers_of (slot_in turned)).set; index = (numbers_of (slot_in turned)).index }

  -- how many turns it had
  abbrev pub turns_in : TurnedSlot D A → ℕ
  turns_in turned = (numbers_of (slot_in turned)).turns

  -- the slots with which locks were made
  abbrev pub made_slot : TurnLock (TurnedSlot D A) → Slot D A
  made_slot lock = slot_in (made_with lock)

  abbrev pub made_slots : List (TurnLock (TurnedSlot D A)) → List (Slot D A)
  made_slots locks = map made_slot locks
