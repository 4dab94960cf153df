-- A listing of names is a step that leaves any claim.
use Rattle.std.proofs.Common.{ℕ, List, [], Option, Some, None, Result, Ok, Err, refl}
use Rattle.std.specs.Prelude.{String}
use Rattle.audit_trail.specs.declared.entry.Entry.{Entry}
use Rattle.drive_base.specs.declared.drive.Drive.{Ghosts}
use Rattle.drive_base.proofs.ViewLemmas.{untouched_are_only_read}
use Rattle.slot_history.specs.Standing.{Records}
use Rattle.slot_history.specs.State.{State}
use Rattle.slot_core.specs.NameList.{ShowsNames}
use Rattle.slot_core.specs.Stubs.{entry_of}
use Rattle.slot_core.specs.Turns.{EntryMoves}
use Rattle.slot_core.specs.declared.slot.SlotFault.{SlotFault}
use Rattle.op_steps.specs.Notes.{noted}
use Rattle.op_steps.specs.Moves.{ShowsBy}
use Rattle.op_steps.specs.Naming.{NamesIsTurn, names_by}
use Rattle.op_steps.proofs.ChangeLetterLemmas.{kept_none}
use Rattle.op_steps.proofs.CauseLemmas.{names_turn_cause}
use Rattle.op_steps.proofs.MovesLemmas.{turn_moves}
use Rattle.op_steps.proofs.NoteLemmas.{audit_noted, entry_counts, entry_noted}
use Rattle.op_steps.proofs.StayLemmas.{stays_leave}
use Rattle.op_steps.proofs.ClaimLemmas.{nothing_gained}

-- what was shown is so of the state before
shows_names : {Y : Type 0} (from : List ℕ) (most : ℕ) (answer : Result (List (String Y)) SlotFault) (entry : Entry) (before after : State)
    → ShowsNames from most answer before after → ShowsBy (Some entry) (names_by from most answer) before after
shows_names from most (Ok names) entry before after x = x
shows_names from most (Err fault) entry before after x = tt

moves_names : {Y : Type 0} (slot : ℕ) (entry : Option Entry) (from : List ℕ) (most : ℕ) (answer : Result (List (String Y)) SlotFault)
    (records after : Records) (state later : State) → EntryMoves slot entry (ShowsNames from most answer) records state after later
    → EntryMoves slot entry (ShowsBy entry (names_by from most answer)) records state after later
moves_names slot None from most answer records after state later x = x
moves_names slot (Some entry) from most answer records after state later x =
    (x.0, shows_names from most answer entry x.0.before x.0.after x.1)

module _ {D : Type 0} (ghosts : Ghosts D) where
  pub names_is_turn : {Y : Type 0} → NamesIsTurn ghosts Y
  names_is_turn {Y = Y} was now from most answer stub disks claim x = turn_moves ghosts was now (noted stub) (names_by from most answer) claim claim disks disks (
      record {
        numbers = x.turns.numbers;
        note_is = entry_noted was.numbers answer stub x.turns.stub_is;
        audit = audit_noted stub was.entries now.entries x.turns.audit;
        faults = entry_counts was.numbers answer stub was.faults now.faults x.turns.stub_is x.turns.faults;
        claims = record { slot = refl; elsewhere = λ other. refl };
        gains = nothing_gained was.numbers now.numbers was.holding now.holding claim;
        read = untouched_are_only_read disks;
        account = names_turn_cause ghosts was now claim {Y = Y} disks from most answer stub x.turns.stub_is x.says x.turns.faults x.lists;
        letters = λ other change made. absurd (kept_none [] stub x.says other change made);
        leaves = stays_leave ghosts was now stub (names_by from most answer) (ShowsNames from most answer) disks disks claim (record {
          numbers = x.turns.numbers;
          holds = x.holds;
          leaves = x.leaves;
          read = untouched_are_only_read disks;
          shows = λ records after state later moves. moves_names was.numbers.index (entry_of stub) from most answer records after state later moves;
        });
      })
