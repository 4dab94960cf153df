-- The begin and the end of a read, as steps of an op that has the pin between them.
use Rattle.std.proofs.Common.{◌≡◌, ◌∙◌, ℕ, List, [], ◌∷◌, Contains, Option, Some, None, Result, Ok, Err, MatchOption, inl, inr, refl, sym, subst, subst₂, arith}
use Rattle.std.proofs.lemmas.List.Elements.{Contains-append_right}
use Rattle.audit_trail.specs.declared.entry.Deed.{Deed}
use Rattle.audit_trail.specs.declared.entry.Entry.{Entry}
use Rattle.call_types.specs.Refusals.{refusal_of}
use Rattle.call_types.specs.declared.names.Key.{Key}
use Rattle.call_types.specs.declared.names.Mode.{Mode}
use Rattle.call_types.specs.declared.names.Pick.{Pick}
use Rattle.call_types.specs.declared.refusal.KeyRefusal.{KeyRefusal}
use Rattle.drive_base.specs.View.{DriveView, views}
use Rattle.drive_base.specs.declared.drive.Drive.{Ghosts}
use Rattle.stamp_id.specs.declared.stamp.ChangeId.{ChangeId}
use Rattle.register_core.specs.declared.faults.QuorumFault.{QuorumFault}
use Rattle.slot_history.specs.Names.{key_name}
use Rattle.slot_history.specs.Standing.{Records}
use Rattle.slot_history.specs.State.{State}
use Rattle.slot_history.proofs.TakenLemmas.{first_there}
use Rattle.slot_data.specs.Disks.{Disks}
use Rattle.slot_data.specs.Holding.{Holding, Pinned}
use Rattle.slot_data.specs.Holding.Purpose.{ForRead}
use Rattle.slot_data.specs.Standing.{DataStands}
use Rattle.slot_core.specs.Calm.{HasMade, OnlyLooked}
use Rattle.slot_core.specs.Hands.{HandsStay}
use Rattle.slot_core.specs.ReadSection.{ReadCause}
use Rattle.slot_core.specs.Sections.{MayLetGo, PinGoes, ReadDeed, ReadHolds, SaysKept, SaysRead, ShowsNoMore}
use Rattle.slot_core.specs.Stubs.{Says, completed_by, entry_of}
use Rattle.slot_core.specs.Turns.{Leaves, Turns, TurnsQuietly}
use Rattle.slot_core.specs.Views.{last_of}
use Rattle.slot_core.specs.declared.slot.SlotFault.{SlotFault}
use Rattle.slot_core.specs.declared.slot.SlotFault.TheVariants.{AuditFailed, Key as KeyFault, NoMemory, NotInFlight, Quorum, SeqSpent}
use Rattle.slot_core.specs.declared.read_plan.ReadStart.{ReadStart}
use Rattle.slot_core.specs.declared.stub.Stub.{Stub}
use Rattle.receipts.specs.Events.Shown.{NoneShown}
use Rattle.op_steps.specs.Causes.{SaysRefused}
use Rattle.op_steps.specs.Claims.{Claim, HoldsAt, among, claims_at, disks_of, hands_of, no_claim}
use Rattle.op_steps.specs.Looking.{AreOnlyRead}
use Rattle.op_steps.specs.Moves.{TurnLeaves, TurnMoves}
use Rattle.op_steps.specs.Notes.{entry_in, noted}
use Rattle.op_steps.specs.Store.{LanesStand, SlotSeen}
use Rattle.op_steps.proofs.Accounts.{TurnAccount}
use Rattle.op_steps.proofs.CauseLemmas.{AnswerCause, IsWritten, answer_cause, key_cause, look_refuses, quorum_cause, unwritten_by, written_by}
use Rattle.op_steps.proofs.ChangeLetterLemmas.{says_none}
use Rattle.op_steps.proofs.DataLemmas.{data_read, last_rises}
use Rattle.op_steps.proofs.MovesLemmas.{turn_moves}
use Rattle.op_steps.proofs.NoteLemmas.{audit_noted, entry_counts, entry_noted}
use Rattle.op_steps.proofs.ClaimLemmas.{nothing_gained, nothing_held}
use Rattle.object_ops.specs.Reading.{HoldsStart, pinned_claim}
use Rattle.object_ops.proofs.ReadingClaims.{begin_holds, end_holds}
use Rattle.object_ops.proofs.TurnForms.{holds_same, leaves_noted, quiet_turn}
use Rattle.object_ops.proofs.ReadingLists.{of_some}

-- what the entry of a read says that was refused: by its lanes, that nothing was done, and else the refusal
read_kept : (at : Key) (mode : Mode) (pick : Pick) (fault : QuorumFault) (entry : Option Entry)
    → MatchOption entry (Unit {0}) (SaysRead at mode pick (Err (Quorum fault))) → MatchOption entry (Unit {0}) (SaysKept (key_name at))
read_kept at mode pick fault None says = tt
read_kept at mode pick fault (Some made) says = record { name_is = says.name_is; deed_is = says.deed_is }

read_said : (at : Key) (mode : Mode) (pick : Pick) (why : KeyRefusal) (entry : Option Entry) → IsWritten entry
    → MatchOption entry (Unit {0}) (SaysRead at mode pick (Err (KeyFault why))) → SaysRefused (refusal_of why) entry
read_said at mode pick why None there says = there
read_said at mode pick why (Some made) there says = (_, says.deed_is)

-- the deed of a read drew no change
read_looked : (at : Key) (mode : Mode) (pick : Pick) (answer : Result ReadStart SlotFault) (deed : Deed) → ReadDeed at mode pick answer deed → OnlyLooked deed
read_looked at mode pick (Ok start) deed is = subst OnlyLooked (sym is) refl
read_looked at mode pick (Err (KeyFault why)) deed is = subst OnlyLooked (sym is) refl
read_looked at mode pick (Err (Quorum fault)) deed is = subst OnlyLooked (sym is) tt
read_looked at mode pick (Err SeqSpent) deed is = absurd is
read_looked at mode pick (Err (AuditFailed before after)) deed is = absurd is
read_looked at mode pick (Err NoMemory) deed is = absurd is
read_looked at mode pick (Err (NotInFlight id)) deed is = absurd is

-- so its note tells none that was made
read_none : (at : Key) (mode : Mode) (pick : Pick) (answer : Result ReadStart SlotFault) (stub : Option Stub) → Says stub (SaysRead at mode pick answer)
    → (name : List ℕ) (change : ChangeId) → HasMade (entry_in (noted stub)) name change → ⊥
read_none at mode pick answer stub says =
    says_none stub (SaysRead at mode pick answer) (λ told is. read_looked at mode pick answer told.deed is.deed_is) says

module _ {D : Type 0} (ghosts : Ghosts D) where
  -- what the begin of a read says
  pub record BeginSays (was now : SlotSeen D) (at : Key) (mode : Mode) (pick : Pick) (answer : Result ReadStart SlotFault) (stub : Option Stub)
      (old new : List D) : Type 0 where
    pub turns : Turns was.numbers now.numbers was.entries now.entries was.faults now.faults answer stub
    pub says : Says stub (SaysRead at mode pick answer)
    pub holds : ReadHolds was.numbers at answer was.holding now.holding
    pub cause : ReadCause ghosts was.numbers now.numbers at pick answer (completed_by stub) was.lanes now.lanes old new
    pub leaves : Leaves ghosts.tells ghosts.files was.numbers now.numbers was.holding now.holding was.lanes now.lanes stub ShowsNoMore HandsStay
    pub read : AreOnlyRead ghosts old new

  -- what it leaves where the data goes on to hold with other claims
  leaves_so : (was now : SlotSeen D) (at : Key) (mode : Mode) (pick : Pick) (answer : Result ReadStart SlotFault) (stub : Option Stub) (old new : List D)
      (claim later : Claim) → BeginSays was now at mode pick answer stub old new
      → ((unseen : Disks) (front rest : List Claim) (records after : Records) (state state_after : State)
      → HoldsAt was.numbers.set was.numbers.index (last_of was.numbers) was.holding unseen (views ghosts old) (among front claim rest) records state
      → ((hands : _) → DataStands was.numbers.set was.numbers.index (last_of was.numbers) records state was.holding (disks_of unseen was.numbers.set.out (views ghosts old)) hands
      → DataStands was.numbers.set was.numbers.index (last_of now.numbers) after state_after now.holding (disks_of unseen was.numbers.set.out (views ghosts old)) hands)
      → HoldsAt was.numbers.set was.numbers.index (last_of now.numbers) now.holding unseen (views ghosts old) (among front later rest) after state_after)
      → (records : Records) (state : State) → LanesStand ghosts.tells ghosts.files was records state
      → TurnLeaves ghosts was now (noted stub) NoneShown claim later (views ghosts old) (views ghosts new) records state
  leaves_so was now at mode pick answer stub old new claim later x goes records state stands =
      let left = x.leaves records state stands in
      leaves_noted ghosts was now stub ShowsNoMore HandsStay claim later (views ghosts old) (views ghosts new) records state left (λ unseen front rest d.
      data_read now.numbers now.holding unseen (views ghosts old) (views ghosts new) (among front later rest) (among front later rest) left.after left.now
      x.read refl
      (subst₂ (λ s i. HoldsAt s i (last_of now.numbers) now.holding unseen (views ghosts old) (among front later rest) left.after left.now)
      (sym x.turns.numbers.set) (sym x.turns.numbers.index)
      (goes unseen front rest records left.after state left.now d
      (λ hands. left.holds (disks_of unseen was.numbers.set.out (views ghosts old)) hands hands refl))))

  -- why it was refused
  read_cause : (was now : SlotSeen D) (claim : Claim) (at : Key) (mode : Mode) (pick : Pick) (answer : Result ReadStart SlotFault) (stub : Option Stub) (old new : List D)
      → BeginSays was now at mode pick answer stub old new → AnswerCause ghosts was now claim (views ghosts old) (views ghosts new) answer (entry_of stub)
  read_cause was now claim at mode pick (Ok start) stub old new x = tt
  read_cause was now claim at mode pick (Err (Quorum fault)) stub old new x =
      quorum_cause ghosts was now claim (views ghosts old) (views ghosts new) fault (entry_of stub)
      (look_refuses ghosts was now claim old new (key_name at) fault (entry_of stub) (written_by was.numbers (Some (Quorum fault)) stub x.turns.stub_is)
      (read_kept at mode pick fault (entry_of stub) x.says) x.cause.1 x.cause.2)
  read_cause was now claim at mode pick (Err (KeyFault why)) stub old new x =
      key_cause ghosts was now claim (views ghosts old) (views ghosts new) why (entry_of stub)
      (read_said at mode pick why (entry_of stub) (written_by was.numbers (Some (KeyFault why)) stub x.turns.stub_is) x.says)
  read_cause was now claim at mode pick (Err SeqSpent) stub old new x = (unwritten_by was.numbers SeqSpent stub x.turns.stub_is, x.turns.spent.0 refl)
  read_cause was now claim at mode pick (Err (AuditFailed before after)) stub old new x =
      (unwritten_by was.numbers (AuditFailed before after) stub x.turns.stub_is, x.turns.faults.0, x.turns.faults.1, x.turns.faults.2)
  read_cause was now claim at mode pick (Err NoMemory) stub old new x = tt
  read_cause was now claim at mode pick (Err (NotInFlight id)) stub old new x = absurd x.cause

  read_turn_cause : (was now : SlotSeen D) (claim : Claim) (at : Key) (mode : Mode) (pick : Pick) (answer : Result ReadStart SlotFault) (stub : Option Stub)
      (old new : List D) → BeginSays was now at mode pick answer stub old new → TurnAccount ghosts (noted stub) was now claim (views ghosts old) (views ghosts new)
  read_turn_cause was now claim at mode pick answer stub old new x =
      answer_cause ghosts was now claim (views ghosts old) (views ghosts new) answer stub x.turns.stub_is
      (read_cause was now claim at mode pick answer stub old new x)

  -- the begin of a read is a step, after which its pin is held
  pub begin_turn : (was now : SlotSeen D) (at : Key) (mode : Mode) (pick : Pick) (answer : Result ReadStart SlotFault) (stub : Option Stub) (old new : List D)
      → BeginSays was now at mode pick answer stub old new → (later : Claim) × HoldsStart was.numbers.index answer later
      × TurnMoves ghosts was now (noted stub) NoneShown (no_claim was.numbers.index) later (views ghosts old) (views ghosts new)
  begin_turn was now at mode pick (Ok start) stub old new x =
      let p = x.holds.0 in (
        pinned_claim was.numbers.index p,
        record { pinned = p; ticket = x.holds.1.ticket_is ∙ sym x.holds.1.handle; purpose = x.holds.1.purpose; claim_is = refl },
        turn_moves ghosts was now (noted stub) NoneShown (no_claim was.numbers.index) (pinned_claim was.numbers.index p) (views ghosts old) (views ghosts new) (record {
          numbers = x.turns.numbers;
          note_is = entry_noted was.numbers (Ok start) stub x.turns.stub_is;
          audit = audit_noted stub was.entries now.entries x.turns.audit;
          faults = entry_counts was.numbers (Ok start) stub was.faults now.faults x.turns.stub_is x.turns.faults;
          claims = record { slot = refl; elsewhere = λ other. absurd (other refl) };
          gains = record {
            flight = λ f is. inl is;
            pin = λ q is. inr (of_some (λ (r : Pinned). (r.ticket ≡ was.numbers.turns) × Contains now.holding.pins r) p q is (
              x.holds.1.ticket_is,
              subst (λ (h : Holding). Contains h.pins p) (sym x.holds.2) (Contains-append_right was.holding.pins (p ∷ []) p (first_there p [])),
            ));
            taken = λ id there. inl there;
          };
          read = x.read;
          account = read_turn_cause was now (no_claim was.numbers.index) at mode pick (Ok start) stub old new x;
          letters = λ name change made. absurd (read_none at mode pick (Ok start) stub x.says name change made);
          leaves = leaves_so was now at mode pick (Ok start) stub old new (no_claim was.numbers.index) (pinned_claim was.numbers.index p) x
              (λ unseen front rest records after state state_after d leaves.
              subst (λ (h : Holding). HoldsAt was.numbers.set was.numbers.index (last_of now.numbers) h unseen (views ghosts old)
              (among front (pinned_claim was.numbers.index p) rest) after state_after) (sym x.holds.2)
              (begin_holds was.numbers.set was.numbers.index (last_of was.numbers) (last_of now.numbers) was.holding p unseen (views ghosts old) front rest
              records after state state_after (last_rises was.numbers now.numbers x.turns.numbers) d
              (λ hands stands. subst (λ (h : Holding). DataStands was.numbers.set was.numbers.index (last_of now.numbers) after state_after h
              (disks_of unseen was.numbers.set.out (views ghosts old)) hands) x.holds.2 (leaves hands stands))));
        }),
      )
  begin_turn was now at mode pick (Err fault) stub old new x = (
    no_claim was.numbers.index,
    refl,
    turn_moves ghosts was now (noted stub) NoneShown (no_claim was.numbers.index) (no_claim was.numbers.index) (views ghosts old) (views ghosts new) (record {
      numbers = x.turns.numbers;
      note_is = entry_noted {T = ReadStart} was.numbers (Err fault) stub x.turns.stub_is;
      audit = audit_noted stub was.entries now.entries x.turns.audit;
      faults = entry_counts {T = ReadStart} was.numbers (Err fault) stub was.faults now.faults x.turns.stub_is x.turns.faults;
      claims = record { slot = refl; elsewhere = λ other. refl };
      gains = nothing_gained was.numbers now.numbers was.holding now.holding (no_claim was.numbers.index);
      read = x.read;
      account = read_turn_cause was now (no_claim was.numbers.index) at mode pick (Err fault) stub old new x;
      letters = λ name change made. absurd (read_none at mode pick (Err fault) stub x.says name change made);
      leaves = leaves_so was now at mode pick (Err fault) stub old new (no_claim was.numbers.index) (no_claim was.numbers.index) x
          (λ unseen front rest records after state state_after d leaves.
          holds_same was.numbers.set was.numbers.index (last_of was.numbers) (last_of now.numbers) was.holding now.holding unseen (views ghosts old)
          (among front (no_claim was.numbers.index) rest) records after state state_after (last_rises was.numbers now.numbers x.turns.numbers) x.holds d
          (leaves (hands_of (claims_at was.numbers.index (among front (no_claim was.numbers.index) rest))) d.stands));
    }),
  )

module _ {D T : Type 0} (ghosts : Ghosts D) where
  -- what the end of a read says
  pub record EndSays (was now : SlotSeen D) (ticket : ℕ) (answer : Result T SlotFault) (stub : Option Stub) : Type 0 where
    pub turns : TurnsQuietly was.numbers now.numbers was.entries now.entries was.faults now.faults answer stub
    pub holds : PinGoes ticket was.holding now.holding
    pub leaves : Leaves ghosts.tells ghosts.files was.numbers now.numbers was.holding now.holding was.lanes now.lanes stub ShowsNoMore
        (MayLetGo was.numbers.set ticket was.holding)

  -- the end of a read is a step, after which nothing is held
  pub end_turn : (was now : SlotSeen D) (p : Pinned) (answer : Result T SlotFault) (disks : List DriveView) → p.purpose ≡ ForRead
      → EndSays was now p.ticket answer None
      → TurnMoves ghosts was now None NoneShown (pinned_claim was.numbers.index p) (no_claim was.numbers.index) disks disks
  end_turn was now p answer disks purpose x =
      quiet_turn ghosts was now answer (MayLetGo was.numbers.set p.ticket was.holding) disks (pinned_claim was.numbers.index p) (no_claim was.numbers.index)
      x.turns x.leaves (record { slot = refl; elsewhere = λ other. absurd (other refl) })
      (nothing_held was.numbers now.numbers was.holding now.holding (pinned_claim was.numbers.index p) was.numbers.index)
      (λ unseen front rest records after state then d left.
      end_holds was.numbers.set was.numbers.index (last_of was.numbers) (last_of now.numbers) was.holding now.holding p unseen disks front rest
      records after state then (last_rises was.numbers now.numbers x.turns.numbers) purpose x.holds d (λ hands may. left hands hands may))
