-- Listings of the names of a slot's registers, as steps: what they say of themselves is all that a step of any claim says.
use Rattle.std.specs.Prelude.{◌≡◌, ℕ, List, map, Option, Result, Ok, Err, String, string_bytes}
use Rattle.drive_base.specs.View.{DriveView}
use Rattle.drive_base.specs.declared.drive.Drive.{Ghosts}
use Rattle.slot_core.specs.Hands.{HandsStay}
use Rattle.slot_core.specs.NameList.{ListsNames, SaysNothing, ShowsNames}
use Rattle.slot_core.specs.Stubs.{Says}
use Rattle.slot_core.specs.Turns.{Leaves, TurnsUnspent}
use Rattle.slot_core.specs.declared.slot.SlotFault.{SlotFault}
use Rattle.slot_core.specs.declared.stub.Stub.{Stub}
use Rattle.receipts.specs.Events.{Shown}
use Rattle.receipts.specs.Events.Shown.{NamesShown, NoneShown}
use Rattle.op_steps.specs.Claims.{Claim}
use Rattle.op_steps.specs.Moves.{TurnMoves}
use Rattle.op_steps.specs.Notes.{noted}
use Rattle.op_steps.specs.Store.{SlotSeen}

-- what a listing shows, by its answer
abbrev pub names_by : {Y E : Type 0} → List ℕ → ℕ → Result (List (String Y)) E → Shown
names_by from most (Ok names) = NamesShown from most (map string_bytes names)
names_by from most (Err fault) = NoneShown

module _ {D : Type 0} (ghosts : Ghosts D) where
  -- what a section says that lists names of registers
  pub record NamesSays {Y : Type 0} (was now : SlotSeen D) (from : List ℕ) (most : ℕ) (answer : Result (List (String Y)) SlotFault) (stub : Option Stub) : Type 0 where
    pub turns : TurnsUnspent was.numbers now.numbers was.entries now.entries was.faults now.faults answer stub
    pub says : Says stub SaysNothing
    pub holds : now.holding ≡ was.holding
    pub lists : ListsNames ghosts was.numbers.set from most answer was.lanes now.lanes
    pub leaves : Leaves ghosts.tells ghosts.files was.numbers now.numbers was.holding now.holding was.lanes now.lanes stub (ShowsNames from most answer) HandsStay

  -- it is a step that leaves any claim, and the data drives
  abbrev pub NamesIsTurn : Type 0 → Type 0
  NamesIsTurn Y = (was now : SlotSeen D) (from : List ℕ) (most : ℕ) (answer : Result (List (String Y)) SlotFault) (stub : Option Stub) (disks : List DriveView)
      (claim : Claim) → NamesSays was now from most answer stub
      → TurnMoves ghosts was now (noted stub) (names_by from most answer) claim claim disks disks
