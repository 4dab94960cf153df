-- What is seen of a pass, and of its slots.
use Rattle.std.specs.Prelude.{◌≡◌, ◌<◌, ℕ, List, length, slice_index_or, Option}
use Rattle.audit_trail.specs.declared.entry.Entry.{Entry}
use Rattle.drive_base.specs.View.{views}
use Rattle.drive_base.specs.declared.drive.Drive.{Ghosts}
use Rattle.drive_base.specs.declared.plan.SetPlan.{SetPlan}
use Rattle.slot_core.specs.declared.slot.Slot.{Slot}
use Rattle.op_steps.specs.Claims.{Claim}
use Rattle.op_steps.specs.Store.{FeedSeen, SlotSeen, Store, TellerSeen, slots_seen, store_of}
use Rattle.store_shared.specs.declared.pass.PlainPass.{PlainPass}

-- slots are of one set, and stand in the order of their indices, 64 of them
pub record SlotsFit {D : Type 0} (set : SetPlan) (slots : List (SlotSeen D)) : Type 0 where
  pub count : length slots ≡ 64
  pub index : (k : ℕ) (d : SlotSeen D) → k < length slots → (slice_index_or slots k d).numbers.index ≡ k
  pub set_is : (k : ℕ) (d : SlotSeen D) → k < length slots → (slice_index_or slots k d).numbers.set ≡ set

module _ {D A : Type 0} where
  -- its set, its slots and its data drives
  abbrev pub set_of : PlainPass D A → SetPlan
  set_of pass = pass.set

  abbrev pub slots_of : PlainPass D A → List (Slot D A)
  slots_of pass = pass.slots.items

  abbrev pub disks_of : PlainPass D A → List D
  disks_of pass = pass.disks.items

module _ {D A T : Type 0} (ghosts : Ghosts D) (entries : A → Option (List Entry)) (count : A → ℕ) where
  -- the store of a pass, as an op has it that claims this, with its feed and its teller
  abbrev pub store_at : PlainPass D A → FeedSeen → TellerSeen T → Claim → Store D T
  store_at pass feed teller claim = store_of (slots_seen entries count (slots_of pass)) (views ghosts (disks_of pass)) claim feed teller
