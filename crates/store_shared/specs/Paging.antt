-- One page of the names of a slot's registers.
use Rattle.std.specs.Prelude.{◌≡◌, ◌⊎◌, ℕ, ◌≤◌, List, None, Option, Result, Err, String, slice_index_or, slice_set}
use Rattle.std.specs.Int.{IsBitSet}
use Rattle.audit_trail.specs.declared.entry.Entry.{Entry}
use Rattle.drive_base.specs.declared.drive.Drive.{Ghosts}
use Rattle.drive_base.specs.View.{AllGoOn, views}
use Rattle.slot_core.specs.LanesStay.{FilesStay}
use Rattle.slot_core.specs.Hands.{HandsStay}
use Rattle.slot_core.specs.NameList.{ListsNames, SaysNothing, ShowsNames}
use Rattle.slot_core.specs.Stubs.{Says}
use Rattle.slot_core.specs.Turns.{Leaves, TurnsUnspent}
use Rattle.slot_core.specs.Views.{audit_of, holding_of, lanes_of, numbers_of}
use Rattle.slot_core.specs.declared.slot.SlotFault.{SlotFault}
use Rattle.slot_core.specs.declared.slot.SlotFault.TheVariants.{SeqSpent}
use Rattle.slot_core.specs.declared.slot.Slot.{Slot}
use Rattle.slot_core.specs.declared.stub.Stub.{Stub}
use Rattle.turn_lock.specs.Tickets.{last_ticket}

module _ {D A : Type 0} (ghosts : Ghosts D) (entries : A → Option (List Entry)) (count : A → ℕ) where
  -- a slot listed the names of its registers, from one on and so many at most
  pub record ListsSlot {Y : Type 0} (from : List ℕ) (most : ℕ) (was now : Slot D A) (answer : Result (List (String Y)) SlotFault) (stub : Option Stub) : Type 0 where
    pub turns : TurnsUnspent (numbers_of was) (numbers_of now) (entries (audit_of was)) (entries (audit_of now)) (count (audit_of was)) (count (audit_of now))
        answer stub
    pub says : Says stub SaysNothing
    pub holds : holding_of now ≡ holding_of was
    pub leaves : Leaves ghosts.tells ghosts.files (numbers_of was) (numbers_of now) (holding_of was) (holding_of now) (lanes_of was) (lanes_of now) stub
        (ShowsNames from most answer) HandsStay
    pub lists : ListsNames ghosts (numbers_of was).set from most answer (lanes_of was) (lanes_of now)
    pub files : FilesStay ghosts (lanes_of was) (lanes_of now)
    pub lanes : AllGoOn (views ghosts (lanes_of was)) (views ghosts (lanes_of now))
    pub out : (k : ℕ) (d : D) → IsBitSet (numbers_of was).set.out k → slice_index_or (lanes_of now) k d ≡ slice_index_or (lanes_of was) k d

  -- one slot of a store did so, and the others stay
  pub record ListsOne {Y : Type 0} (index : ℕ) (from : List ℕ) (most : ℕ) (old new : List (Slot D A)) (answer : Result (List (String Y)) SlotFault)
      (stub : Option Stub) : Type 0 where
    pub was : Slot D A
    pub now : Slot D A
    pub is : (d : Slot D A) → slice_index_or old index d ≡ was
    pub lists : ListsSlot from most was now answer stub
    pub stays : new ≡ slice_set old index now

-- the turns of a slot of a store are spent, and nothing is done
pub record IsPageSpent {D A Y : Type 0} (index : ℕ) (old new : List (Slot D A)) (answer : Result (List (String Y)) SlotFault) (stub : Option Stub) : Type 0 where
  pub spent : (d : Slot D A) → last_ticket ≤ (numbers_of (slice_index_or old index d)).turns
  pub refused : answer ≡ Err SeqSpent
  pub no_stub : stub ≡ None
  pub stays : new ≡ old

module _ {D A : Type 0} (ghosts : Ghosts D) (entries : A → Option (List Entry)) (count : A → ℕ) where
  -- what a page of names comes to
  abbrev pub Pages : {Y : Type 0} → ℕ → List ℕ → ℕ → List (Slot D A) → List (Slot D A) → Result (List (String Y)) SlotFault → Option Stub → Type 0
  Pages index from most old new answer stub = IsPageSpent index old new answer stub ⊎ ListsOne ghosts entries count index from most old new answer stub
