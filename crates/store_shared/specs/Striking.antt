-- What trouble does to a pass: it befalls the lane of one index in each slot, and the data drive of this index.
use Rattle.std.specs.Prelude.{◌≡◌, ℕ, ◌<◌, Bool, List, Option, length, slice_index_or}
use Rattle.audit_trail.specs.declared.entry.Entry.{Entry}
use Rattle.drive_base.specs.View.{views}
use Rattle.drive_base.specs.declared.drive.Drive.{Ghosts}
use Rattle.slot_core.specs.Opening.{Strikes}
use Rattle.slot_core.specs.Views.{audit_of, holding_of, lanes_of, numbers_of}
use Rattle.slot_core.specs.declared.slot.Slot.{Slot}
use Rattle.op_steps.specs.Store.{slots_seen}
use Rattle.log_laws.specs.StoreTroubles.{StoreTroubled}
use Rattle.store_shared.specs.Passes.{disks_of, slots_of}
use Rattle.store_shared.specs.declared.pass.PlainPass.{PlainPass}

module _ {D T : Type 0} (ghosts : Ghosts D) (befalls : T → D → Bool → D → Type 0) where
  -- a trouble befell the lane of this index in one slot, and all else of the slot stays; in the first slot it is as it was given, in a later one as the
  -- strikes before left it
  pub record SlotIsStruck {A : Type 0} (index place : ℕ) (given : T) (was now : Slot D A) : Type 0 where
    pub trouble : T
    pub first : place ≡ 0 → trouble ≡ given
    pub struck : Bool
    pub strikes : Strikes ghosts befalls index trouble (lanes_of was) struck (lanes_of now)
    pub numbers : numbers_of now ≡ numbers_of was
    pub holding : holding_of now ≡ holding_of was
    pub audit : audit_of now ≡ audit_of was

  -- so it was in each of these slots
  pub record AreStruckAt {A : Type 0} (index : ℕ) (given : T) (old new : List (Slot D A)) : Type 0 where
    pub count : length new ≡ length old
    pub each : (k : ℕ) (d : Slot D A) → k < length old → SlotIsStruck index k given (slice_index_or old k d) (slice_index_or new k d)

  -- a trouble befell one data drive, of which no call was made, and the others stay
  pub record DiskIsStruck (index : ℕ) (struck : Bool) (old new : List D) : Type 0 where
    pub trouble : T
    pub strikes : Strikes ghosts befalls index trouble old struck new
    pub trail : (d : D) → ghosts.trail (slice_index_or new index d) ≡ ghosts.trail (slice_index_or old index d)

module _ {D A T : Type 0} (ghosts : Ghosts D) (entries : A → Option (List Entry)) (count : A → ℕ) (befalls : T → D → Bool → D → Type 0) where
  -- trouble befell the store of a pass that was struck, as the laws of logs speak of it
  abbrev pub StruckIsTroubled : Type 0
  StruckIsTroubled = (index : ℕ) (given : T) (struck : Bool) (old new : PlainPass D A)
      → AreStruckAt ghosts befalls index given (slots_of old) (slots_of new) → DiskIsStruck ghosts befalls index struck (disks_of old) (disks_of new)
      → StoreTroubled ghosts (slots_seen entries count (slots_of old)) (views ghosts (disks_of old))
      (slots_seen entries count (slots_of new)) (views ghosts (disks_of new))
