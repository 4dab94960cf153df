-- What a section leaves of itself beside its answer: its stub, and its entry in the audit.
use Rattle.std.specs.Prelude.{◌≡◌, ℕ, List, Option, Some, None, MatchOption, Result, Ok, Err}
use Rattle.fault_base.specs.Counts.{Rose}
use Rattle.stamp_id.specs.declared.stamp.ChangeId.{ChangeId}
use Rattle.audit_trail.specs.Entries.{with_entry}
use Rattle.audit_trail.specs.declared.entry.Entry.{Entry}
use Rattle.slot_core.specs.Views.{SlotNumbers}
use Rattle.slot_core.specs.declared.slot.SlotFault.{SlotFault}
use Rattle.slot_core.specs.declared.slot.SlotFault.TheVariants.{Quorum, Key, SeqSpent, AuditFailed, NoMemory, NotInFlight}
use Rattle.slot_core.specs.declared.stub.Stub.{Stub}

-- a stub is that of a section: it tells the slot, the section's ticket, its refusal, and its entry, if it wrote one
pub record IsStub (numbers : SlotNumbers) (entry : Option Entry) (fault : Option SlotFault) (stub : Stub) : Type 0 where
  pub slot : stub.slot ≡ numbers.index
  pub ticket : stub.ticket ≡ numbers.turns
  pub entry_is : stub.entry ≡ entry
  pub fault_is : stub.fault ≡ fault

-- a section wrote an entry, of its own ticket, and has a stub with it
abbrev pub Writes : SlotNumbers → Option SlotFault → Option Stub → Type 0
Writes numbers fault stub = (made : Stub) × (stub ≡ Some made) × ((entry : Entry) × (entry.ticket ≡ numbers.turns) × IsStub numbers (Some entry) fault made)

-- a section was refused before it could write an entry, and has a stub without one
abbrev pub WritesNone : SlotNumbers → SlotFault → Option Stub → Type 0
WritesNone numbers fault stub = (made : Stub) × (stub ≡ Some made) × IsStub numbers None (Some fault) made

-- the stub of a section that writes an entry: each has one, but where its numbers are spent, its audit failed, or it found no memory
abbrev pub StubOfEntry : {T : Type 0} → SlotNumbers → Result T SlotFault → Option Stub → Type 0
StubOfEntry numbers (Ok _) stub = Writes numbers None stub
StubOfEntry numbers (Err (Quorum fault)) stub = Writes numbers (Some (Quorum fault)) stub
StubOfEntry numbers (Err (Key why)) stub = Writes numbers (Some (Key why)) stub
StubOfEntry numbers (Err SeqSpent) stub = WritesNone numbers SeqSpent stub
StubOfEntry numbers (Err (AuditFailed before after)) stub = WritesNone numbers (AuditFailed before after) stub
StubOfEntry numbers (Err NoMemory) stub = stub ≡ None
StubOfEntry numbers (Err (NotInFlight id)) stub = Writes numbers (Some (NotInFlight id)) stub

-- the stub of a section that writes no entry: it has one where its numbers are spent
abbrev pub StubOfNone : {T : Type 0} → SlotNumbers → Result T SlotFault → Option Stub → Type 0
StubOfNone numbers (Ok _) stub = stub ≡ None
StubOfNone numbers (Err (Quorum _)) stub = ⊥
StubOfNone numbers (Err (Key _)) stub = ⊥
StubOfNone numbers (Err SeqSpent) stub = WritesNone numbers SeqSpent stub
StubOfNone numbers (Err (AuditFailed _ _)) stub = ⊥
StubOfNone numbers (Err NoMemory) stub = stub ≡ None
StubOfNone numbers (Err (NotInFlight _)) stub = ⊥

-- the entry of a stub, if there is one
abbrev pub entry_of : Option Stub → Option Entry
entry_of None = None
entry_of (Some stub) = stub.entry

-- the change that a section tells it completed for an earlier one, if it tells one
abbrev pub late_in : Option Entry → Option ChangeId
late_in None = None
late_in (Some entry) = entry.late

abbrev pub completed_by : Option Stub → Option ChangeId
completed_by stub = late_in (entry_of stub)

-- what an audit has after a section: one entry more, where the stub has one
abbrev pub AuditHas : Option Stub → Option (List Entry) → Option (List Entry) → Type 0
AuditHas stub old new = MatchOption (entry_of stub) (new ≡ old) (λ entry. new ≡ with_entry old entry)

-- the faults of an audit over a section: they rise where the section says that the audit failed, from what it says to what it says
abbrev pub AuditCounts : {T : Type 0} → Result T SlotFault → ℕ → ℕ → Type 0
AuditCounts (Ok _) old new = new ≡ old
AuditCounts (Err (Quorum _)) old new = new ≡ old
AuditCounts (Err (Key _)) old new = new ≡ old
AuditCounts (Err SeqSpent) old new = new ≡ old
AuditCounts (Err (AuditFailed before after)) old new = (before ≡ old) × (after ≡ new) × Rose old new
AuditCounts (Err NoMemory) old new = new ≡ old
AuditCounts (Err (NotInFlight _)) old new = new ≡ old

-- what the entry of a section says, if it wrote one
abbrev pub Says : Option Stub → (Entry → Type 0) → Type 0
Says stub what = MatchOption (entry_of stub) (Unit {0}) what
