-- A section as a step, from its whole account.
use Rattle.std.proofs.Common.{List, Option, Some, None}
use Rattle.drive_base.specs.View.{DriveView}
use Rattle.drive_base.specs.declared.drive.Drive.{Ghosts}
use Rattle.receipts.specs.Events.{Note, Shown}
use Rattle.op_steps.specs.Claims.{Claim}
use Rattle.op_steps.specs.Moves.{TurnMoves}
use Rattle.op_steps.specs.Serving.{TurnComplete}
use Rattle.op_steps.specs.Store.{SlotSeen}
use Rattle.op_steps.proofs.Accounts.{TurnDoes}
use Rattle.op_steps.proofs.CalmRegisterLemmas.{calm_looks}
use Rattle.op_steps.proofs.CauseLetterLemmas.{cause_by}
use Rattle.op_steps.proofs.SectionLemmas.{section_enough}

-- a section that has a note isn't refused for a fault of a quorum against which enough drives serve, by its account
turn_complete : {D : Type 0} (ghosts : Ghosts D) (was now : SlotSeen D) (note : Option Note) (shown : Shown) (claim later : Claim) (old new : List DriveView)
    → TurnDoes ghosts was now note shown claim later old new → TurnComplete ghosts note was now claim old new
turn_complete ghosts was now None shown claim later old new x = tt
turn_complete ghosts was now (Some note) shown claim later old new x = record {
  enough = section_enough ghosts was now note shown claim later old new x;
  calm = calm_looks ghosts was now note shown claim later old new x;
}

-- what is said of a section is drawn from its account
pub turn_moves : {D : Type 0} (ghosts : Ghosts D) (was now : SlotSeen D) (note : Option Note) (shown : Shown) (claim later : Claim) (disks_old disks_new : List DriveView)
    → TurnDoes ghosts was now note shown claim later disks_old disks_new → TurnMoves ghosts was now note shown claim later disks_old disks_new
turn_moves ghosts was now note shown claim later disks_old disks_new x = record {
  numbers = x.numbers;
  note_is = x.note_is;
  audit = x.audit;
  faults = x.faults;
  claims = x.claims;
  gains = x.gains;
  read = x.read;
  cause = cause_by ghosts was now claim disks_old disks_new x.read.long note x.account;
  complete = turn_complete ghosts was now note shown claim later disks_old disks_new x;
  letters = x.letters;
  leaves = x.leaves;
}
