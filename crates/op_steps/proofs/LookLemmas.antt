-- A look, and a reading of a data drive, are steps that leave any claim.
use Rattle.std.proofs.Common.{◌≡◌, ◌≢◌, ◌+◌, ℕ, List, Option, Some, None, Result, Ok, Err, MatchOption, inl, inr, length, min, refl, sym, subst}
use Rattle.std.proofs.lemmas.Bool.{cases_eq}
use Rattle.audit_trail.specs.declared.entry.Entry.{Entry}
use Rattle.drive_base.specs.Calls.{AnswerTells, FaultTells, Seen}
use Rattle.drive_base.specs.Calls.Seen.{CutShort, Faulted, Missing, Showed, Sized, Unwritten}
use Rattle.drive_base.specs.Trail.{DriveCall, IsReading, Size, Read, Append, Sync, Rename, Discard, Remove, Names}
use Rattle.drive_base.specs.View.{AllOnlyRead, DriveView, OnlyRead, view_at, views}
use Rattle.drive_base.specs.declared.drive.Drive.{Ghosts}
use Rattle.drive_base.specs.declared.fault.DriveFault.{DriveFault}
use Rattle.drive_base.specs.declared.fault.DriveFault.TheVariants.{Absent, Failed, NoMemory}
use Rattle.drive_base.proofs.CallLemmas.{readings_only_read}
use Rattle.drive_base.proofs.ViewLemmas.{untouched_are_only_read}
use Rattle.slot_history.specs.Standing.{Records}
use Rattle.slot_history.specs.State.{State}
use Rattle.slot_core.specs.Sections.{SaysKept, ShowsContent}
use Rattle.slot_core.specs.Stubs.{entry_of}
use Rattle.slot_core.specs.Turns.{EntryMoves}
use Rattle.slot_core.specs.declared.slot.SlotFault.{SlotFault}
use Rattle.slot_core.specs.declared.stub.Stub.{Stub}
use Rattle.op_steps.specs.Calls.{MayCall}
use Rattle.op_steps.specs.Claims.{Claim, among}
use Rattle.op_steps.specs.Looking.{LookIsTurn, LookSays, ReadIsCall, shown_by}
use Rattle.op_steps.specs.Notes.{noted}
use Rattle.op_steps.specs.Moves.{ShowsBy}
use Rattle.op_steps.specs.Store.{SlotSeen}
use Rattle.op_steps.proofs.ChangeLetterLemmas.{kept_none}
use Rattle.op_steps.proofs.CauseLemmas.{look_turn_cause}
use Rattle.op_steps.proofs.DataLemmas.{data_read}
use Rattle.op_steps.proofs.MovesLemmas.{turn_moves}
use Rattle.op_steps.proofs.NoteLemmas.{audit_noted, entry_counts, entry_noted}
use Rattle.op_steps.proofs.StayLemmas.{Stays, stays_leave}
use Rattle.op_steps.proofs.ClaimLemmas.{claim_stays, nothing_gained}

-- what was shown is so of the register that the entry names
shows_by : (answer : Result (List ℕ) SlotFault) (name : List ℕ) (entry : Entry) (before after : State) → entry.name ≡ name
    → ShowsContent name answer before after → ShowsBy (Some entry) (shown_by answer) before after
shows_by (Ok content) name entry before after is x = subst (λ n. content ≡ (before.registers n).content) (sym is) x
shows_by (Err fault) name entry before after is x = tt

moves_by : (slot : ℕ) (entry : Option Entry) (name : List ℕ) (answer : Result (List ℕ) SlotFault) (records after : Records) (state now : State)
    → MatchOption entry (Unit {0}) (SaysKept name) → EntryMoves slot entry (ShowsContent name answer) records state after now
    → EntryMoves slot entry (ShowsBy entry (shown_by answer)) records state after now
moves_by slot None name answer records after state now says x = x
moves_by slot (Some entry) name answer records after state now says x =
    (x.0, shows_by answer name entry x.0.before x.0.after says.name_is x.1)

module _ {D : Type 0} (ghosts : Ghosts D) where
  -- what a look says of its slot
  look_stays : (was now : SlotSeen D) (name : List ℕ) (answer : Result (List ℕ) SlotFault) (stub : Option Stub) (old new : List D)
      → LookSays ghosts was now name answer stub old new
      → Stays ghosts was now stub (shown_by answer) (ShowsContent name answer) (views ghosts old) (views ghosts new)
  look_stays was now name answer stub old new x = record {
    numbers = x.turns.numbers;
    holds = x.holds;
    leaves = x.leaves;
    read = x.read;
    shows = λ records after state later moves. moves_by was.numbers.index (entry_of stub) name answer records after state later x.says moves;
  }

  pub look_is_turn : LookIsTurn ghosts
  look_is_turn was now name answer stub old new claim x = turn_moves ghosts was now (noted stub) (shown_by answer) claim claim (views ghosts old) (views ghosts new) (
      record {
        numbers = x.turns.numbers;
        note_is = entry_noted was.numbers answer stub x.turns.stub_is;
        audit = audit_noted stub was.entries now.entries x.turns.audit;
        faults = entry_counts was.numbers answer stub was.faults now.faults x.turns.stub_is x.turns.faults;
        claims = record { slot = refl; elsewhere = λ other. refl };
        gains = nothing_gained was.numbers now.numbers was.holding now.holding claim;
        read = x.read;
        account = look_turn_cause ghosts was now claim old new name answer stub x.turns.stub_is x.says x.turns.spent.0 x.turns.faults x.cause;
        letters = λ other change made. absurd (kept_none name stub x.says other change made);
        leaves = stays_leave ghosts was now stub (shown_by answer) (ShowsContent name answer) (views ghosts old) (views ghosts new) claim
            (look_stays was now name answer stub old new x);
      })

-- drives of which one was only read, and no other was called
read_alone : (k : ℕ) (old new : List DriveView) → OnlyRead (view_at old k) (view_at new k) → length new ≡ length old
    → ((other : ℕ) → other ≢ k → view_at new other ≡ view_at old other) → AllOnlyRead old new
read_alone k old new read long others = record {
  long = long;
  each = λ i inside. elim (cases_eq i k) [
    | inl own ↦ subst (λ j. OnlyRead (view_at old j) (view_at new j)) (sym own) read
    | inr other ↦ subst (λ (v : DriveView). OnlyRead (view_at old i) v) (sym (others i other)) ((untouched_are_only_read old).each i inside)
  ];
}

-- a reading never tells that nothing is being written
abbrev is_unwritten : Seen → Type 0
is_unwritten (Sized name n) = ⊥
is_unwritten (Showed name at bytes) = ⊥
is_unwritten (CutShort name at long place) = ⊥
is_unwritten (Missing name) = ⊥
is_unwritten (Unwritten name) = Unit {0}
is_unwritten (Faulted name before after) = ⊥

tells_other : (loose : List ℕ) (seen : Seen) → Unwritten loose ≡ seen → is_unwritten seen
tells_other loose seen is = subst is_unwritten is tt

fault_other : (fault : DriveFault) (name loose : List ℕ) (before after : ℕ) → FaultTells fault name (Missing name) before after (Unwritten loose) → ⊥
fault_other Absent name loose before after is = tells_other loose (Missing name) is
fault_other Failed name loose before after is = tells_other loose (Faulted name before after) is
fault_other NoMemory name loose before after is = is

reads_other : (call : DriveCall) (before after : ℕ) (loose : List ℕ) → IsReading call → AnswerTells call before after (Unwritten loose) → ⊥
reads_other (Size name (Ok n)) before after loose reads is = tells_other loose (Sized name n) is
reads_other (Size name (Err fault)) before after loose reads is = fault_other fault name loose before after is
reads_other (Read name at into (Ok count) filled) before after loose reads is = elim is [
  | inl whole ↦ tells_other loose (Showed name at filled) whole.1
  | inr short ↦ tells_other loose (CutShort name at (length into) (min (at + count) 18446744073709551615)) short.1
]
reads_other (Read name at into (Err fault) filled) before after loose reads is = fault_other fault name loose before after is
reads_other (Append name bytes answer) before after loose reads is = reads
reads_other (Sync name answer) before after loose reads is = reads
reads_other (Rename name at answer) before after loose reads is = reads
reads_other (Discard name answer) before after loose reads is = reads
reads_other (Remove name answer) before after loose reads is = reads
reads_other (Names from most (Ok names)) before after loose reads is = is
reads_other (Names from most (Err fault)) before after loose reads is = fault_other fault from loose before after is

-- and any op may make it
reading_may : (claim : Claim) (call : DriveCall) → IsReading call → MayCall claim call
reading_may claim (Size name answer) reads = tt
reading_may claim (Read name at into answer filled) reads = tt
reading_may claim (Append loose bytes answer) reads = absurd reads
reading_may claim (Sync loose answer) reads = absurd reads
reading_may claim (Rename loose name answer) reads = absurd reads
reading_may claim (Discard loose answer) reads = absurd reads
reading_may claim (Remove name answer) reads = absurd reads
reading_may claim (Names from most answer) reads = tt

pub read_is_call : ReadIsCall
read_is_call set k made old new claim x =
    let read = readings_only_read made.call (view_at old k) (view_at new k) x.reading x.was_made.model in
    record {
      within = x.within;
      in_use = x.in_use;
      was_made = x.was_made;
      may = reading_may claim made.call x.reading;
      long = x.long;
      others = x.others;
      claims = claim_stays claim;
      written = λ unseen front rest own says at mine. reads_other made.call made.before made.after says.0 x.reading says.1;
      holds = λ unseen front rest own s at mine kept.
          data_read s.numbers s.holding unseen old new (among front claim rest) (among front claim rest) s.records s.state
          (read_alone k old new read x.long x.others) refl kept.holds;
    }
