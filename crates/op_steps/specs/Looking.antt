-- Looks of slots and reads of data drives, as steps: what they say of themselves is all that a step of any claim says.
use Rattle.std.specs.Prelude.{◌≡◌, ◌≢◌, ℕ, ◌<◌, List, length, Option, Result, Ok, Err}
use Rattle.std.specs.Int.{IsBitSet}
use Rattle.drive_base.specs.Calls.{MadeCall, WasMade}
use Rattle.drive_base.specs.Trail.{IsReading}
use Rattle.drive_base.specs.View.{AllOnlyRead, DriveView, view_at, views}
use Rattle.drive_base.specs.declared.plan.SetPlan.{SetPlan}
use Rattle.drive_base.specs.declared.drive.Drive.{Ghosts}
use Rattle.slot_core.specs.Causes.{PeekCause}
use Rattle.slot_core.specs.Hands.{HandsStay}
use Rattle.slot_core.specs.Sections.{SaysKept, ShowsContent}
use Rattle.slot_core.specs.Stubs.{Says, completed_by}
use Rattle.slot_core.specs.Turns.{Leaves, Turns}
use Rattle.slot_core.specs.declared.slot.SlotFault.{SlotFault}
use Rattle.slot_core.specs.declared.stub.Stub.{Stub}
use Rattle.receipts.specs.Events.{Shown}
use Rattle.receipts.specs.Events.Shown.{ContentShown, NoneShown}
use Rattle.op_steps.specs.Claims.{Claim}
use Rattle.op_steps.specs.Moves.{CallMoves, TurnMoves}
use Rattle.op_steps.specs.Notes.{noted}
use Rattle.op_steps.specs.Store.{SlotSeen}

-- what a look shows, by its answer
abbrev pub shown_by : {E : Type 0} → Result (List ℕ) E → Shown
shown_by (Ok content) = ContentShown content
shown_by (Err fault) = NoneShown

module _ {D : Type 0} (ghosts : Ghosts D) where
  -- data drives were only read
  abbrev pub AreOnlyRead : List D → List D → Type 0
  AreOnlyRead old new = AllOnlyRead (views ghosts old) (views ghosts new)

  -- what a section says that looks at a register
  pub record LookSays (was now : SlotSeen D) (name : List ℕ) (answer : Result (List ℕ) SlotFault) (stub : Option Stub) (old new : List D) : Type 0 where
    pub turns : Turns was.numbers now.numbers was.entries now.entries was.faults now.faults answer stub
    pub says : Says stub (SaysKept name)
    pub holds : now.holding ≡ was.holding
    pub cause : PeekCause ghosts was.numbers now.numbers name answer (completed_by stub) was.lanes now.lanes old new
    pub leaves : Leaves ghosts.tells ghosts.files was.numbers now.numbers was.holding now.holding was.lanes now.lanes stub (ShowsContent name answer) HandsStay
    pub read : AreOnlyRead old new

  -- it is a step that leaves any claim
  abbrev pub LookIsTurn : Type 0
  LookIsTurn = (was now : SlotSeen D) (name : List ℕ) (answer : Result (List ℕ) SlotFault) (stub : Option Stub) (old new : List D) (claim : Claim)
      → LookSays was now name answer stub old new
      → TurnMoves ghosts was now (noted stub) (shown_by answer) claim claim (views ghosts old) (views ghosts new)

-- a reading of a data drive in use, and of no other
pub record ReadSays (set : SetPlan) (k : ℕ) (made : MadeCall) (old new : List DriveView) : Type 0 where
  pub within : k < length old
  pub in_use : IsBitSet set.out k → ⊥
  pub was_made : WasMade made (view_at old k) (view_at new k)
  pub reading : IsReading made.call
  pub long : length new ≡ length old
  pub others : (other : ℕ) → other ≢ k → view_at new other ≡ view_at old other

-- it is a step that leaves any claim
abbrev pub ReadIsCall : Type 0
ReadIsCall = (set : SetPlan) (k : ℕ) (made : MadeCall) (old new : List DriveView) (claim : Claim) → ReadSays set k made old new
    → CallMoves set k made claim claim old new
