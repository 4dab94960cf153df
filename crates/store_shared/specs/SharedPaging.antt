-- One page of the names of a slot's registers, as one caller among others gets it.
use Rattle.std.specs.Prelude.{◌≡◌, ◌⊎◌, ℕ, List, None, Option, Result, Err, String, slice_set}
use Rattle.audit_trail.specs.declared.entry.Entry.{Entry}
use Rattle.drive_base.specs.declared.drive.Drive.{Ghosts}
use Rattle.drive_base.specs.declared.plan.SetPlan.{SetPlan}
use Rattle.slot_core.specs.declared.slot.SlotFault.{SlotFault}
use Rattle.slot_core.specs.declared.slot.SlotFault.TheVariants.{SeqSpent}
use Rattle.slot_core.specs.declared.stub.Stub.{Stub}
use Rattle.turn_lock.specs.declared.view.Turn.{Turn}
use Rattle.store_shared.specs.Among.{IsPassAt, PassSeen, refused, with_turn}
use Rattle.store_shared.specs.AmongSteps.{IsTurnOf}
use Rattle.store_shared.specs.Paging.{ListsSlot}
use Rattle.store_shared.specs.Turned.{slot_in}
use Rattle.store_shared.specs.declared.shared.TurnedSlot.{TurnedSlot}

-- the lock had no ticket left, and nothing was done
pub record IsPageRefused {D A Y : Type 0} (was now : PassSeen D A) (answer : Result (List (String Y)) SlotFault) (stub : Option Stub) : Type 0 where
  pub pass : now ≡ refused was
  pub answers : answer ≡ Err SeqSpent
  pub no_stub : stub ≡ None

module _ {D A : Type 0} (ghosts : Ghosts D) (entries : A → Option (List Entry)) (count : A → ℕ) where
  -- a slot listed the names of its registers in a turn
  pub record ListsInTurn {Y : Type 0} (set : SetPlan) (k : ℕ) (from : List ℕ) (most : ℕ) (was now : PassSeen D A) (answer : Result (List (String Y)) SlotFault)
      (stub : Option Stub) : Type 0 where
    pub turn : Turn (TurnedSlot D A)
    pub comes : IsTurnOf set k was turn
    pub lists : ListsSlot ghosts entries count from most (slot_in turn.from) (slot_in turn.to) answer stub
    pub pass : now ≡ with_turn was turn

  -- what a page of names comes to, with the pass of the slot's lock
  abbrev pub PagesInTurn : {Y : Type 0} → SetPlan → ℕ → List ℕ → ℕ → PassSeen D A → PassSeen D A → Result (List (String Y)) SlotFault → Option Stub → Type 0
  PagesInTurn set k from most was now answer stub = IsPageRefused was now answer stub ⊎ ListsInTurn set k from most was now answer stub

  -- and with the other passes, which stay
  pub record PagesAmong {Y : Type 0} (set : SetPlan) (k : ℕ) (from : List ℕ) (most : ℕ) (old new : List (PassSeen D A))
      (answer : Result (List (String Y)) SlotFault) (stub : Option Stub) : Type 0 where
    pub was : PassSeen D A
    pub now : PassSeen D A
    pub is : IsPassAt old k was
    pub pages : PagesInTurn set k from most was now answer stub
    pub stays : new ≡ slice_set old k now
