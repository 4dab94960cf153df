-- The begin of a put that is refused, as a step that leaves any claim.
use Rattle.std.proofs.Common.{◌≡◌, ◌∙◌, ℕ, List, [], ◌∷◌, ◌++◌, Option, Some, None, MatchOption, Result, Ok, Err, option_and_then, append-nil, length, inr, refl, sym, ap, subst, subst₂, arith}
use Rattle.audit_trail.specs.declared.entry.Entry.{Entry}
use Rattle.call_types.specs.declared.names.Key.{Key}
use Rattle.call_types.specs.declared.names.Mode.{Mode}
use Rattle.call_types.specs.declared.refusal.Refusal.TheVariants as refusal
use Rattle.call_types.specs.declared.reply.Reply.TheVariants.{Refused}
use Rattle.drive_base.specs.declared.drive.Drive.{Ghosts}
use Rattle.drive_base.specs.View.{DriveView}
use Rattle.drive_base.proofs.ViewLemmas.{untouched_are_only_read}
use Rattle.audit_trail.specs.Entries.{with_entry}
use Rattle.slot_core.specs.Hands.{HandsStay}
use Rattle.slot_core.specs.Sections.{ShowsNoMore}
use Rattle.slot_core.specs.Stubs.{AuditCounts, StubOfEntry, StubOfNone, entry_of}
use Rattle.slot_core.specs.Calm.{HasMade}
use Rattle.slot_core.specs.Views.{SlotNumbers, last_of}
use Rattle.slot_core.specs.declared.slot.SlotFault.{SlotFault}
use Rattle.slot_core.specs.declared.slot.SlotFault.TheVariants as slot
use Rattle.slot_core.specs.declared.holding.Flight.{Flight}
use Rattle.slot_core.specs.declared.stub.Stub.{Stub}
use Rattle.receipts.specs.Events.{IsQuiet, Log, body_of}
use Rattle.receipts.specs.Events.Event.{Turned}
use Rattle.receipts.specs.Events.Shown.{NoneShown}
use Rattle.receipts.specs.Registers.{key_slot}
use Rattle.receipts.proofs.JoinLemmas.{bodies_join, sections_join}
use Rattle.op_steps.specs.Claims.{Claim, HoldsAt, among, claims_at, disks_of, hands_of, no_claim}
use Rattle.op_steps.specs.Moves.{TurnMoves}
use Rattle.op_steps.specs.Notes.{note_of, noted, refusal_by}
use Rattle.op_steps.specs.Store.{SlotSeen}
use Rattle.op_steps.specs.Words.{TurnsSo}
use Rattle.op_steps.proofs.CauseLemmas.{FaultCause, answer_cause}
use Rattle.op_steps.proofs.DataLemmas.{last_rises}
use Rattle.op_steps.proofs.MovesLemmas.{turn_moves}
use Rattle.op_steps.proofs.NoteLemmas.{audit_noted, entry_counts, entry_noted, same_entry}
use Rattle.op_steps.proofs.TellLemmas.{cuts_after}
use Rattle.op_steps.proofs.ClaimLemmas.{nothing_gained}
use Rattle.object_ops.specs.Clearing.{HasNone}
use Rattle.object_ops.specs.Reading.{HasFound}
use Rattle.object_ops.specs.Put.{PutAsk, task_of}
use Rattle.object_ops.specs.PutStands.{PutStandsAt}
use Rattle.object_ops.specs.PutStageCalls.{BeginsTo}
use Rattle.object_ops.specs.PutOutcome.{OwesNext, RefusedBegin}
use Rattle.object_ops.specs.PutTarget.{key_of, register_of}
use Rattle.object_ops.specs.declared.clearing.Clearing.{Clearing}
use Rattle.object_ops.specs.declared.put_state.PutState.{PutState}
use Rattle.object_ops.specs.declared.put_state.PutState.TheVariants as state
use Rattle.object_ops.proofs.PutBegins.{BeginSays}
use Rattle.object_ops.proofs.PutLogs.{decided_stands}
use Rattle.object_ops.proofs.PutOpLemmas.{begun_so, rest_none}
use Rattle.object_ops.proofs.ReadingTell.{fresh_pays, one_all, quiet_fresh}
use Rattle.object_ops.proofs.TellingLemmas.{untold_after}
use Rattle.object_ops.proofs.TurnForms.{holds_same, leaves_noted}

-- its stub is that of a section that writes an entry, of which it wrote none
stub_of : (numbers : SlotNumbers) (fault : SlotFault) (stub : Option Stub) → StubOfNone {T = Flight} numbers (Err fault) stub → StubOfEntry {T = Flight} numbers (Err fault) stub
stub_of numbers (slot.Quorum quorum) stub x = absurd x
stub_of numbers (slot.Key why) stub x = absurd x
stub_of numbers slot.SeqSpent stub x = x
stub_of numbers (slot.AuditFailed before after) stub x = absurd x
stub_of numbers slot.NoMemory stub x = x
stub_of numbers (slot.NotInFlight id) stub x = absurd x

no_entry : (numbers : SlotNumbers) (fault : SlotFault) (stub : Option Stub) → StubOfNone {T = Flight} numbers (Err fault) stub → entry_of stub ≡ None
no_entry numbers (slot.Quorum quorum) stub x = absurd x
no_entry numbers (slot.Key why) stub x = absurd x
no_entry numbers slot.SeqSpent stub x = ap entry_of x.1 ∙ x.2.entry_is
no_entry numbers (slot.AuditFailed before after) stub x = absurd x
no_entry numbers slot.NoMemory stub x = ap entry_of x
no_entry numbers (slot.NotInFlight id) stub x = absurd x

counts_of : (numbers : SlotNumbers) (fault : SlotFault) (stub : Option Stub) (old new : ℕ) → StubOfNone {T = Flight} numbers (Err fault) stub → new ≡ old
    → AuditCounts {T = Flight} (Err fault) old new
counts_of numbers (slot.Quorum quorum) stub old new x same = absurd x
counts_of numbers (slot.Key why) stub old new x same = absurd x
counts_of numbers slot.SeqSpent stub old new x same = same
counts_of numbers (slot.AuditFailed before after) stub old new x same = absurd x
counts_of numbers slot.NoMemory stub old new x same = same
counts_of numbers (slot.NotInFlight id) stub old new x same = absurd x

module _ {D : Type 0} (ghosts : Ghosts D) where
  -- why it was refused
  refused_cause : (was now : SlotSeen D) (at : Key) (fault : SlotFault) (stub : Option Stub) (disks : List DriveView) (claim : Claim)
      → BeginSays ghosts was now at (Err fault) stub → FaultCause ghosts was now claim disks disks fault (entry_of stub)
  refused_cause was now at (slot.Quorum quorum) stub disks claim x = absurd x.turns.stub_is
  refused_cause was now at (slot.Key why) stub disks claim x = absurd x.turns.stub_is
  refused_cause was now at slot.SeqSpent stub disks claim x = (no_entry was.numbers slot.SeqSpent stub x.turns.stub_is, x.spent refl)
  refused_cause was now at (slot.AuditFailed before after) stub disks claim x = absurd x.turns.stub_is
  refused_cause was now at slot.NoMemory stub disks claim x = tt
  refused_cause was now at (slot.NotInFlight id) stub disks claim x = absurd x.turns.stub_is

  pub refused_turn : (was now : SlotSeen D) (at : Key) (fault : SlotFault) (stub : Option Stub) (disks : List DriveView) (claim : Claim)
      → BeginSays ghosts was now at (Err fault) stub → TurnMoves ghosts was now (noted stub) NoneShown claim claim disks disks
  refused_turn was now at fault stub disks claim x =
      let stub_is = stub_of was.numbers fault stub x.turns.stub_is in
      let none = no_entry was.numbers fault stub x.turns.stub_is in
      turn_moves ghosts was now (noted stub) NoneShown claim claim disks disks (record {
        numbers = x.turns.numbers;
        note_is = entry_noted {T = Flight} was.numbers (Err fault) stub stub_is;
        audit = audit_noted stub was.entries now.entries
            (subst (λ e. MatchOption e (now.entries ≡ was.entries) (λ entry. now.entries ≡ with_entry was.entries entry)) (sym none) x.turns.audit);
        faults = entry_counts {T = Flight} was.numbers (Err fault) stub was.faults now.faults stub_is
            (counts_of was.numbers fault stub was.faults now.faults x.turns.stub_is x.turns.faults);
        claims = record { slot = refl; elsewhere = λ other. refl };
        gains = nothing_gained was.numbers now.numbers was.holding now.holding claim;
        read = untouched_are_only_read disks;
        account = answer_cause ghosts was now claim disks disks {T = Flight} (Err fault) stub stub_is (refused_cause was now at fault stub disks claim x);
        letters = λ name change made.
            absurd (subst (λ (e : Option Entry). HasMade e name change) none (subst (λ (e : Option Entry). HasMade e name change) (same_entry stub) made));
        leaves = λ records state stands.
            let left = x.leaves records state stands in
            leaves_noted ghosts was now stub ShowsNoMore HandsStay claim claim disks disks records state left (λ unseen front rest d.
            let claims = among front claim rest in
            let hands = hands_of (claims_at was.numbers.index claims) in
            subst₂ (λ s i. HoldsAt s i (last_of now.numbers) now.holding unseen disks claims left.after left.now) (sym x.turns.numbers.set) (sym x.turns.numbers.index)
            (holds_same was.numbers.set was.numbers.index (last_of was.numbers) (last_of now.numbers) was.holding now.holding unseen disks claims
            records left.after state left.now (last_rises was.numbers now.numbers x.turns.numbers) x.holds.1 d
            (left.holds (disks_of unseen was.numbers.set.out disks) hands hands refl d.stands)));
      })

module _ (ask : PutAsk) (read : ℕ) where
  -- it is told that the slot's numbers are spent, and nothing for want of memory
  refused_stands : (clearing : Clearing) (later : PutState) (mode : Mode) (numbers : SlotNumbers) (fault : SlotFault) (stub : Option Stub) (claim : Claim) (log : Log)
      → read ≡ 0 → numbers.index ≡ key_slot (key_of ask.target) → HasNone clearing → claim ≡ no_claim (key_slot (key_of ask.target)) → HasFound (key_of ask.target).bucket mode log
      → StubOfNone {T = Flight} numbers (Err fault) stub → RefusedBegin fault ask.long later
      → PutStandsAt ask read clearing later claim (log ++ Turned numbers.index (noted stub) NoneShown ∷ [])
  refused_stands clearing later mode numbers (slot.Quorum quorum) stub claim log zero own none is found x after = absurd x
  refused_stands clearing later mode numbers (slot.Key why) stub claim log zero own none is found x after = absurd x
  refused_stands clearing later mode numbers slot.SeqSpent stub claim log zero own none is found x after =
      let event = Turned numbers.index (Some (note_of x.0)) NoneShown in
      subst (λ (s : Option Stub). PutStandsAt ask read clearing later claim (log ++ Turned numbers.index (noted s) NoneShown ∷ [])) (sym x.1)
      (decided_stands ask read clearing (Refused refusal.SeqSpent) later claim (log ++ event ∷ [])
      (subst (λ n. OwesNext (Refused refusal.SeqSpent) n ask.long later) (sym zero) after) (omega (arith, zero))
      (rest_none ask read clearing claim (log ++ event ∷ []) none is) (record {
        untold = untold_after log event found.fresh.untold tt;
        uncut = cuts_after log event found.fresh.uncut;
        read_is = ap length (bodies_join log (event ∷ []) ∙ (append-nil (body_of log) ∙ found.fresh.untaken)) ∙ sym zero;
        decided = inr (inr (record {
          look = found.look;
          own = record { note = note_of x.0; shown = NoneShown };
          sections = sections_join log (event ∷ []) ∙ ap (λ l. l ++ record { note = note_of x.0; shown = NoneShown } ∷ []) found.sections;
          mode = mode;
          bucket = found.finds;
          no_entry = x.2.entry_is;
          refuses = record {
            slot_is = x.2.slot ∙ own;
            why = refusal.SeqSpent;
            of_section = tt;
            refused = ap (option_and_then refusal_by) x.2.fault_is;
            told = refl;
          };
          spent = refl;
        }));
      }))
  refused_stands clearing later mode numbers (slot.AuditFailed before after_it) stub claim log zero own none is found x after = absurd x
  refused_stands clearing later mode numbers slot.NoMemory stub claim log zero own none is found x after =
      let event = Turned numbers.index None NoneShown in
      subst (λ (s : Option Stub). PutStandsAt ask read clearing later claim (log ++ Turned numbers.index (noted s) NoneShown ∷ [])) (sym x)
      (subst (λ (s : PutState). PutStandsAt ask read clearing s claim (log ++ event ∷ [])) (sym after) (
        rest_none ask read clearing claim (log ++ event ∷ []) none is,
        fresh_pays ask.set (task_of ask) (log ++ event ∷ []) (quiet_fresh log (event ∷ []) (one_all IsQuiet event tt) found.fresh),
      ))
  refused_stands clearing later mode numbers (slot.NotInFlight id) stub claim log zero own none is found x after = absurd x

  -- the begin, by its answer
  pub begin_so : {D : Type 0} (ghosts : Ghosts D) (clearing : Clearing) (one later : PutState) (mode : Mode) (answer : Result Flight SlotFault)
      (stub : Option Stub) (was after : SlotSeen D) (disks : List DriveView) → one ≡ state.Beginning mode → read ≡ 0 → was.numbers.index ≡ key_slot (key_of ask.target)
      → BeginSays ghosts was after (key_of ask.target) answer stub → BeginsTo ask.set (register_of ask.target) ask.long ask.stated mode answer later
      → TurnsSo ghosts (PutStandsAt ask read clearing one) (PutStandsAt ask read clearing later) stub was after disks disks
  begin_so ghosts clearing one later mode (Ok flight) stub was after disks is zero own says begins =
      subst (λ (s : Option Stub). TurnsSo ghosts (PutStandsAt ask read clearing one) (PutStandsAt ask read clearing later) s was after disks disks)
      (sym says.turns.stub_is)
      (begun_so ask read ghosts clearing one later mode flight was after disks is own
      (subst (λ (s : Option Stub). BeginSays ghosts was after (key_of ask.target) (Ok flight) s) says.turns.stub_is says) begins)
  begin_so ghosts clearing one later mode (Err fault) stub was after disks is zero own says begins = λ claim log x.
      let here = subst (λ (s : PutState). PutStandsAt ask read clearing s claim log) is x in (
        claim,
        NoneShown,
        refused_stands clearing later mode was.numbers fault stub claim log zero own here.0 here.1 here.2 says.turns.stub_is begins,
        refused_turn ghosts was after (key_of ask.target) fault stub disks claim says,
      )
