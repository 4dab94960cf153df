-- What the clauses of a section say of its note.
use Rattle.std.proofs.Common.{◌≡◌, ℕ, List, Option, Some, None, Result, Ok, Err, option_and_then, refl, subst, sym}
use Rattle.audit_trail.specs.declared.entry.Entry.{Entry}
use Rattle.call_types.specs.declared.refusal.KeyRefusal.{KeyRefusal}
use Rattle.call_types.specs.declared.refusal.KeyRefusal.TheVariants as key
use Rattle.register_core.specs.declared.faults.QuorumFault.{QuorumFault}
use Rattle.register_core.specs.declared.faults.QuorumFault.TheVariants.{NoMemory as NoMemoryQuorum, ReadQuorum, Undecided, WriteQuorum}
use Rattle.slot_history.specs.Standing.{Records}
use Rattle.slot_history.specs.State.{State}
use Rattle.slot_core.specs.Calm.{SectionCalms}
use Rattle.slot_core.specs.Stubs.{AuditCounts as CountsOfAnswer, AuditHas as HasOfStub, StubOfEntry, Writes, WritesNone, entry_of}
use Rattle.slot_core.specs.Views.{SlotNumbers}
use Rattle.slot_core.specs.declared.slot.SlotFault.{SlotFault}
use Rattle.slot_core.specs.declared.slot.SlotFault.TheVariants.{AuditFailed, Key, NoMemory, NotInFlight, Quorum, SeqSpent}
use Rattle.slot_core.specs.declared.stub.Stub.{Stub}
use Rattle.op_steps.specs.Notes.{AuditCounts, AuditHas, CountsBy, HasTicket, IsNoted, entry_in, note_of, noted, refusal_by}

-- the note of a stub has its entry
pub same_entry : (stub : Option Stub) → entry_in (noted stub) ≡ entry_of stub
same_entry None = refl
same_entry (Some stub) = refl

-- what a section leaves calm, by its note
pub calm_noted : (w : ℕ) (stub : Option Stub) (records : Records) (state : State) (after : Records) (now : State)
    → SectionCalms w (entry_of stub) records state after now → SectionCalms w (entry_in (noted stub)) records state after now
calm_noted w stub records state after now calm = subst (λ (e : Option Entry). SectionCalms w e records state after now) (sym (same_entry stub)) calm

-- it is that of its section
writes_noted : (numbers : SlotNumbers) (fault : Option SlotFault) (stub : Option Stub) → Writes numbers fault stub → IsNoted numbers (noted stub)
writes_noted numbers fault stub x = subst (λ s. IsNoted numbers (noted s)) (sym x.1) (record {
  slot = x.2.2.slot;
  ticket = x.2.2.ticket;
  entry = subst (λ e. HasTicket e numbers.turns) (sym x.2.2.entry_is) x.2.1;
})

none_noted : (numbers : SlotNumbers) (fault : SlotFault) (stub : Option Stub) → WritesNone numbers fault stub → IsNoted numbers (noted stub)
none_noted numbers fault stub x = subst (λ s. IsNoted numbers (noted s)) (sym x.1) (record {
  slot = x.2.slot;
  ticket = x.2.ticket;
  entry = subst (λ e. HasTicket e numbers.turns) (sym x.2.entry_is) tt;
})

pub entry_noted : {T : Type 0} (numbers : SlotNumbers) (answer : Result T SlotFault) (stub : Option Stub) → StubOfEntry numbers answer stub
    → IsNoted numbers (noted stub)
entry_noted numbers (Ok _) stub x = writes_noted numbers None stub x
entry_noted numbers (Err (Quorum fault)) stub x = writes_noted numbers (Some (Quorum fault)) stub x
entry_noted numbers (Err (Key why)) stub x = writes_noted numbers (Some (Key why)) stub x
entry_noted numbers (Err SeqSpent) stub x = none_noted numbers SeqSpent stub x
entry_noted numbers (Err (AuditFailed before after)) stub x = none_noted numbers (AuditFailed before after) stub x
entry_noted numbers (Err NoMemory) stub x = subst (λ s. IsNoted numbers (noted s)) (sym x) tt
entry_noted numbers (Err (NotInFlight id)) stub x = writes_noted numbers (Some (NotInFlight id)) stub x

-- its entry is what the audit got
pub audit_noted : (stub : Option Stub) (old new : Option (List Entry)) → HasOfStub stub old new → AuditHas (noted stub) old new
audit_noted None old new x = x
audit_noted (Some stub) old new x = x

-- and the audit's count is as it says
quorum_counts : (fault : QuorumFault) (old new : ℕ) → new ≡ old → CountsBy (refusal_by (Quorum fault)) old new
quorum_counts (ReadQuorum whys) old new same = same
quorum_counts (WriteQuorum whys) old new same = same
quorum_counts (Undecided k u whys) old new same = same
quorum_counts NoMemoryQuorum old new same = same

key_counts : (why : KeyRefusal) (old new : ℕ) → new ≡ old → CountsBy (refusal_by (Key why)) old new
key_counts (key.NoSuchKey marker) old new same = same
key_counts key.NoSuchVersion old new same = same
key_counts (key.MarkerNamed id modified) old new same = same
key_counts key.VersionLimit old new same = same
key_counts key.NoSuchUpload old new same = same
key_counts key.InvalidPart old new same = same
key_counts key.PartOrder old new same = same
key_counts key.PartSmall old new same = same
key_counts key.UploadLimit old new same = same

written_counts : (numbers : SlotNumbers) (fault : Option SlotFault) (stub : Option Stub) (old new : ℕ) → Writes numbers fault stub
    → ((made : Stub) → made.fault ≡ fault → CountsBy (note_of made).refusal old new) → AuditCounts (noted stub) old new
written_counts numbers fault stub old new x counts = subst (λ s. AuditCounts (noted s) old new) (sym x.1) (counts x.0 x.2.2.fault_is)

none_counts : (numbers : SlotNumbers) (fault : SlotFault) (stub : Option Stub) (old new : ℕ) → WritesNone numbers fault stub
    → ((made : Stub) → made.fault ≡ Some fault → CountsBy (note_of made).refusal old new) → AuditCounts (noted stub) old new
none_counts numbers fault stub old new x counts = subst (λ s. AuditCounts (noted s) old new) (sym x.1) (counts x.0 x.2.fault_is)

by_fault : (made : Stub) (fault : Option SlotFault) (old new : ℕ) → made.fault ≡ fault → CountsBy (option_and_then refusal_by fault) old new
    → CountsBy (note_of made).refusal old new
by_fault made fault old new is counts = subst (λ f. CountsBy (option_and_then refusal_by f) old new) (sym is) counts

pub entry_counts : {T : Type 0} (numbers : SlotNumbers) (answer : Result T SlotFault) (stub : Option Stub) (old new : ℕ) → StubOfEntry numbers answer stub
    → CountsOfAnswer answer old new → AuditCounts (noted stub) old new
entry_counts numbers (Ok _) stub old new x same = written_counts numbers None stub old new x (λ made is. by_fault made None old new is same)
entry_counts numbers (Err (Quorum fault)) stub old new x same =
    written_counts numbers (Some (Quorum fault)) stub old new x (λ made is. by_fault made (Some (Quorum fault)) old new is (quorum_counts fault old new same))
entry_counts numbers (Err (Key why)) stub old new x same =
    written_counts numbers (Some (Key why)) stub old new x (λ made is. by_fault made (Some (Key why)) old new is (key_counts why old new same))
entry_counts numbers (Err SeqSpent) stub old new x same =
    none_counts numbers SeqSpent stub old new x (λ made is. by_fault made (Some SeqSpent) old new is same)
entry_counts numbers (Err (AuditFailed before after)) stub old new x rose =
    none_counts numbers (AuditFailed before after) stub old new x (λ made is. by_fault made (Some (AuditFailed before after)) old new is rose)
entry_counts numbers (Err NoMemory) stub old new x same = subst (λ s. AuditCounts (noted s) old new) (sym x) same
entry_counts numbers (Err (NotInFlight id)) stub old new x same =
    written_counts numbers (Some (NotInFlight id)) stub old new x (λ made is. by_fault made (Some (NotInFlight id)) old new is same)
