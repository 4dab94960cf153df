-- How a call ends that commits an act to a key, by what the section says: without a put.
use Rattle.std.proofs.Common.{◌≡◌, ◌⊎◌, ◌∙◌, ℕ, List, [], ◌∷◌, ◌++◌, Option, Some, None, Result, Err, MatchOption, option_and_then, inl, inr, refl, sym, ap, subst}
use Rattle.audit_trail.specs.declared.entry.Deed.{Deed}
use Rattle.audit_trail.specs.declared.entry.Deed.TheVariants.{Done, Kept, Refused as RefusedDeed}
use Rattle.audit_trail.specs.declared.entry.Entry.{Entry}
use Rattle.call_types.specs.Refusals.{refusal_of}
use Rattle.call_types.specs.declared.act.Act.{Act}
use Rattle.call_types.specs.declared.act.Brief.TheVariants.{Answer, Change}
use Rattle.call_types.specs.declared.names.Key.{Key}
use Rattle.call_types.specs.declared.names.Mode.{Mode}
use Rattle.call_types.specs.declared.refusal.KeyRefusal.{KeyRefusal}
use Rattle.call_types.specs.declared.refusal.Refusal.{Refusal}
use Rattle.call_types.specs.declared.reply.Reply.{Reply}
use Rattle.call_types.specs.declared.reply.Reply.TheVariants.{Refused}
use Rattle.register_core.specs.declared.faults.QuorumFault.{QuorumFault}
use Rattle.register_core.specs.declared.faults.QuorumFault.TheVariants.{NoMemory as NoMemoryQuorum, ReadQuorum, Undecided, WriteQuorum}
use Rattle.slot_rules.specs.Deeds.{name_of}
use Rattle.slot_rules.specs.declared.commit.Commit.TheVariants.{Key as KeyCommit}
use Rattle.slot_rules.specs.declared.commit.Commit.{Commit}
use Rattle.slot_rules.specs.declared.commit.Committed.{Committed}
use Rattle.slot_core.specs.CommitCauses.{deed_in}
use Rattle.slot_core.specs.Commits.{QuorumDeed, SaysCommit}
use Rattle.slot_core.specs.Stubs.{Says, StubOfEntry, Writes, WritesNone, entry_of}
use Rattle.slot_core.specs.Views.{SlotNumbers}
use Rattle.slot_core.specs.declared.slot.SlotFault.{SlotFault}
use Rattle.slot_core.specs.declared.slot.SlotFault.TheVariants.{AuditFailed, Key as KeyFault, NoMemory, NotInFlight, Quorum, SeqSpent}
use Rattle.slot_core.specs.declared.stub.Stub.{Stub}
use Rattle.receipts.specs.Committing.{BeginsChange, KeyIsCommitted, MakesChange, RefusesChange, Target, act_target}
use Rattle.receipts.specs.Dues.{IsDueChange}
use Rattle.receipts.specs.Events.{Log, Note}
use Rattle.receipts.specs.Events.Event.{Turned}
use Rattle.receipts.specs.Events.Shown.{NoneShown}
use Rattle.receipts.specs.Looks.{HasEntry, IsIdle, IsOfSection}
use Rattle.receipts.specs.Registers.{key_register, key_slot}
use Rattle.receipts.proofs.JoinLemmas.{sections_join}
use Rattle.op_steps.specs.Notes.{note_of, refusal_by}
use Rattle.object_ops.specs.PutStands.{HasLookedAt}
use Rattle.object_ops.specs.Reading.{HasFound}
use Rattle.object_ops.proofs.DueLemmas.{DoneSo}

-- how a call can end at the section that commits it
abbrev pub EndsSo : Key → Mode → ℕ → (Act → Type 0) → Note → Reply → Type 0
EndsSo at mode now IsAct note reply = MakesChange (act_target at mode now IsAct) note reply ⊎ RefusesChange (act_target at mode now IsAct) note reply

-- what has found the bucket has looked at it
pub looked_of : (bucket : List ℕ) (mode : Mode) (log : Log) → HasFound bucket mode log → HasLookedAt bucket mode log
looked_of bucket mode log found = record {
  untold = found.fresh.untold;
  uncut = found.fresh.uncut;
  idle = found.fresh.idle;
  look = found.look;
  sections = found.sections;
  finds = found.finds;
}

-- behind the look at the bucket it is how the call ends
pub ends_so : (at : Key) (mode : Mode) (now : ℕ) (IsAct : Act → Type 0) (reply : Reply) (log : Log) (k : ℕ) (made : Stub) → HasLookedAt at.bucket mode log
    → EndsSo at mode now IsAct (note_of made) reply → KeyIsCommitted at now IsAct reply (log ++ Turned k (Some (note_of made)) NoneShown ∷ [])
ends_so at mode now IsAct reply log k made looked ends = record {
  look = looked.look;
  mode = mode;
  bucket = looked.finds;
  commit = record {
    own = record { note = note_of made; shown = NoneShown };
    sections = sections_join log (Turned k (Some (note_of made)) NoneShown ∷ [])
        ∙ ap (λ l. l ++ record { note = note_of made; shown = NoneShown } ∷ []) looked.sections;
    ends = ends;
  };
}

module _ (at : Key) (mode : Mode) (act : Act) (now : ℕ) (numbers : SlotNumbers) (own : numbers.index ≡ key_slot at) where
  abbrev deed : Commit
  deed = KeyCommit at mode act

  -- what it changes
  abbrev target : Target
  target = act_target at mode now (λ done. done ≡ act)

  -- the entry of a stub, by what it says
  entry_so : (answer : Result Committed SlotFault) (fault : Option SlotFault) (stub : Option Stub) (x : Writes numbers fault stub) → Says stub (SaysCommit deed now answer)
      → SaysCommit deed now answer x.2.0
  entry_so answer fault stub x says =
      subst (λ (e : Option Entry). MatchOption e (Unit {0}) (SaysCommit deed now answer)) (ap entry_of x.1 ∙ x.2.2.entry_is) says

  entered : (fault : Option SlotFault) (stub : Option Stub) (x : Writes numbers fault stub) → deed_in (entry_of stub) ≡ x.2.0.deed
  entered fault stub x = ap deed_in (ap entry_of x.1 ∙ x.2.2.entry_is)

  has_entry : (fault : Option SlotFault) (stub : Option Stub) (x : Writes numbers fault stub) (said : Deed) → x.2.0.name ≡ name_of deed → x.2.0.deed ≡ said
      → HasEntry (key_slot at) (key_register at) said (note_of x.0)
  has_entry fault stub x said name_is deed_is = record {
    slot_is = x.2.2.slot ∙ own;
    entry = x.2.0;
    entry_is = x.2.2.entry_is;
    ticket_is = x.2.1 ∙ sym x.2.2.ticket;
    name_is = name_is;
    deed_is = deed_is;
  }

  -- it was done, and its reply is due
  pub changes_so : (reply : Reply) (answer : Result Committed SlotFault) (fault : Option SlotFault) (stub : Option Stub) (x : Writes numbers fault stub)
      → Says stub (SaysCommit deed now answer) → DoneSo numbers.index at mode act now reply (deed_in (entry_of stub))
      → MakesChange target (note_of x.0) reply
  changes_so reply answer fault stub x says done = record {
    change = done.change;
    call = Change at mode act done.change now;
    is_call = (act, refl, refl);
    entry = has_entry fault stub x (Done (Change at mode act done.change now) (Answer reply)) (entry_so answer fault stub x says).name_is
        (sym (entered fault stub x) ∙ done.deed_is);
    due = subst (λ slot. IsDueChange slot mode act done.change now reply) own done.due;
  }

  -- it was refused
  refuses_so : (why : Refusal) (fault : SlotFault) (made : Stub) → made.slot ≡ numbers.index → made.fault ≡ Some fault → refusal_by fault ≡ Some why → IsOfSection why
      → (IsIdle (key_slot at) (key_register at) (note_of made) ⊎ BeginsChange target (note_of made))
      → RefusesChange target (note_of made) (Refused why)
  refuses_so why fault made slot is by of begun = record {
    refuses = record { slot_is = slot ∙ own; why = why; of_section = of; refused = ap (option_and_then refusal_by) is ∙ by; told = refl };
    deed = begun;
  }

  bare_so : (why : Refusal) (fault : SlotFault) (stub : Option Stub) (x : WritesNone numbers fault stub) → refusal_by fault ≡ Some why → IsOfSection why
      → RefusesChange target (note_of x.0) (Refused why)
  bare_so why fault stub x by of = refuses_so why fault x.0 x.2.slot x.2.fault_is by of (inl (inl x.2.entry_is))

  kept_so : (why : Refusal) (fault : SlotFault) (answer : Result Committed SlotFault) (stub : Option Stub) (x : Writes numbers (Some fault) stub)
      → Says stub (SaysCommit deed now answer) → x.2.0.deed ≡ Kept → refusal_by fault ≡ Some why → IsOfSection why
      → RefusesChange target (note_of x.0) (Refused why)
  kept_so why fault answer stub x says kept by of = refuses_so why fault x.0 x.2.2.slot x.2.2.fault_is by of
      (inl (inr (has_entry (Some fault) stub x Kept (entry_so answer (Some fault) stub x says).name_is kept)))

  -- the refusals of a register
  quorum_so : (why : Refusal) (fault : QuorumFault) (answer : Result Committed SlotFault) (stub : Option Stub) (x : Writes numbers (Some (Quorum fault)) stub)
      → Says stub (SaysCommit deed now answer) → QuorumDeed deed now fault x.2.0.deed → refusal_by (Quorum fault) ≡ Some why → IsOfSection why
      → RefusesChange target (note_of x.0) (Refused why)
  quorum_so why (ReadQuorum whys) answer stub x says kept by of = kept_so why (Quorum (ReadQuorum whys)) answer stub x says kept by of
  quorum_so why (WriteQuorum whys) answer stub x says (inl kept) by of = kept_so why (Quorum (WriteQuorum whys)) answer stub x says kept by of
  quorum_so why (WriteQuorum whys) answer stub x says (inr begun) by of =
      refuses_so why (Quorum (WriteQuorum whys)) x.0 x.2.2.slot x.2.2.fault_is by of (inr (record {
        change = begun.0;
        call = Change at mode act (Some begun.0) now;
        is_call = (act, refl, refl);
        entry = has_entry (Some (Quorum (WriteQuorum whys))) stub x (RefusedDeed begun.0 (Change at mode act (Some begun.0) now))
            (entry_so answer (Some (Quorum (WriteQuorum whys))) stub x says).name_is begun.1;
      }))
  quorum_so why (Undecided k u whys) answer stub x says kept by of = kept_so why (Quorum (Undecided k u whys)) answer stub x says kept by of
  quorum_so why NoMemoryQuorum answer stub x says none by of = absurd none

  quorum_of : (fault : QuorumFault) (stub : Option Stub) (x : Writes numbers (Some (Quorum fault)) stub) → Says stub (SaysCommit deed now (Err (Quorum fault)))
      → (why : Refusal) × (refusal_by (Quorum fault) ≡ Some why) × RefusesChange target (note_of x.0) (Refused why)
  quorum_of (ReadQuorum whys) stub x says = (
    Refusal.ReadQuorum whys,
    refl,
    quorum_so _ (ReadQuorum whys) _ stub x says (entry_so _ (Some (Quorum (ReadQuorum whys))) stub x says).deed_is refl tt,
  )
  quorum_of (WriteQuorum whys) stub x says = (
    Refusal.WriteQuorum whys,
    refl,
    quorum_so _ (WriteQuorum whys) _ stub x says (entry_so _ (Some (Quorum (WriteQuorum whys))) stub x says).deed_is refl tt,
  )
  quorum_of (Undecided k u whys) stub x says = (
    Refusal.Undecided k u whys,
    refl,
    quorum_so _ (Undecided k u whys) _ stub x says (entry_so _ (Some (Quorum (Undecided k u whys))) stub x says).deed_is refl tt,
  )
  quorum_of NoMemoryQuorum stub x says = absurd (entry_so _ (Some (Quorum NoMemoryQuorum)) stub x says).deed_is

  -- what a refused commit is told, and how its call ends: want of memory alone is told nothing, and leaves no note
  abbrev pub RefusedSo : SlotFault → Option Stub → Type 0
  RefusedSo fault stub = ((fault ≡ NoMemory) × (stub ≡ None))
      ⊎ ((made : Stub) × (stub ≡ Some made) × ((why : Refusal) × (refusal_by fault ≡ Some why) × EndsSo at mode now (λ done. done ≡ act) (note_of made) (Refused why)))

  pub refused_commit : (fault : SlotFault) (stub : Option Stub) → StubOfEntry {T = Committed} numbers (Err fault) stub → Says stub (SaysCommit deed now (Err fault))
      → ((why : KeyRefusal) → fault ≡ KeyFault why → DoneSo numbers.index at mode act now (Refused (refusal_of why)) (deed_in (entry_of stub)))
      → RefusedSo fault stub
  refused_commit (Quorum fault) stub x says due = (let of = quorum_of fault stub x says in inr (x.0, x.1, (of.0, of.1, inr of.2)))
  refused_commit (KeyFault why) stub x says due =
      inr (x.0, x.1, (refusal_of why, refl, inl (changes_so (Refused (refusal_of why)) (Err (KeyFault why)) (Some (KeyFault why)) stub x says (due why refl))))
  refused_commit SeqSpent stub x says due = inr (x.0, x.1, (Refusal.SeqSpent, refl, inr (bare_so Refusal.SeqSpent SeqSpent stub x refl tt)))
  refused_commit (AuditFailed before after) stub x says due =
      inr (x.0, x.1, (Refusal.AuditFailed before after, refl, inr (bare_so (Refusal.AuditFailed before after) (AuditFailed before after) stub x refl tt)))
  refused_commit NoMemory stub x says due = inl (refl, x)
  refused_commit (NotInFlight id) stub x says due = inr (
    x.0,
    x.1,
    (
      Refusal.NotInFlight id,
      refl,
      inr (kept_so (Refusal.NotInFlight id) (NotInFlight id) (Err (NotInFlight id)) stub x says (entry_so _ (Some (NotInFlight id)) stub x says).deed_is refl tt),
    ),
  )
