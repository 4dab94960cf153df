-- Commits of slots that end no put, as steps: what they say of themselves is all that a step of any claim says.
use Rattle.std.specs.Prelude.{ℕ, List, None, Option, Result}
use Rattle.drive_base.specs.View.{views}
use Rattle.drive_base.specs.declared.drive.Drive.{Ghosts}
use Rattle.slot_rules.specs.declared.commit.Commit.{Commit}
use Rattle.slot_rules.specs.declared.commit.Committed.{Committed}
use Rattle.slot_core.specs.CommitCauses.{CommitCause, deed_in}
use Rattle.slot_core.specs.Commits.{ChecksFlight, CommitHolds, FitsFlight, MayCommitData, SaysCommit, ShowsTrash}
use Rattle.slot_core.specs.Stubs.{Says, entry_of}
use Rattle.slot_core.specs.Turns.{Leaves, Turns}
use Rattle.slot_core.specs.declared.slot.SlotFault.{SlotFault}
use Rattle.slot_core.specs.declared.stub.Stub.{Stub}
use Rattle.receipts.specs.Events.Shown.{NoneShown}
use Rattle.op_steps.specs.Claims.{Claim}
use Rattle.op_steps.specs.Looking.{AreOnlyRead}
use Rattle.op_steps.specs.Moves.{TurnMoves}
use Rattle.op_steps.specs.Notes.{noted}
use Rattle.op_steps.specs.Store.{SlotSeen}

module _ {D : Type 0} (ghosts : Ghosts D) where
  -- what a section says that commits a deed at a moment, without a put
  pub record CommitSays (was now : SlotSeen D) (deed : Commit) (at : ℕ) (answer : Result Committed SlotFault) (stub : Option Stub) (old new : List D) : Type 0 where
    pub fits : FitsFlight deed None
    pub turns : Turns was.numbers now.numbers was.entries now.entries was.faults now.faults answer stub
    pub says : Says stub (SaysCommit deed at answer)
    pub holds : CommitHolds None answer was.holding now.holding
    pub checks : ChecksFlight None was.holding answer
    pub cause : CommitCause ghosts was.numbers now.numbers deed None at answer (deed_in (entry_of stub)) was.lanes now.lanes old new
    pub leaves : Leaves ghosts.tells ghosts.files was.numbers now.numbers was.holding now.holding was.lanes now.lanes stub
        (ShowsTrash deed answer was.holding.trash now.holding.trash) (MayCommitData deed now.holding)
    pub read : AreOnlyRead ghosts old new

  -- it is a step that leaves any claim
  abbrev pub CommitIsTurn : Type 0
  CommitIsTurn = (was now : SlotSeen D) (deed : Commit) (at : ℕ) (answer : Result Committed SlotFault) (stub : Option Stub) (old new : List D) (claim : Claim)
      → CommitSays was now deed at answer stub old new
      → TurnMoves ghosts was now (noted stub) NoneShown claim claim (views ghosts old) (views ghosts new)
