-- What a section's stub notes of it.
use Rattle.std.specs.Prelude.{◌≡◌, ℕ, List, map, Option, Some, None, MatchOption, option_and_then, option_map}
use Rattle.fault_base.specs.Counts.{Rose}
use Rattle.audit_trail.specs.Entries.{with_entry}
use Rattle.audit_trail.specs.declared.entry.Entry.{Entry}
use Rattle.call_types.specs.Refusals.{refusal_of}
use Rattle.call_types.specs.declared.refusal.Refusal.{Refusal}
use Rattle.call_types.specs.declared.refusal.Refusal.TheVariants as refusal
use Rattle.register_core.specs.declared.faults.QuorumFault.TheVariants.{NoMemory as NoMemoryQuorum, ReadQuorum, Undecided, WriteQuorum}
use Rattle.slot_core.specs.Views.{SlotNumbers}
use Rattle.slot_core.specs.declared.slot.SlotFault.{SlotFault}
use Rattle.slot_core.specs.declared.slot.SlotFault.TheVariants.{AuditFailed, Key, NoMemory, NotInFlight, Quorum, SeqSpent}
use Rattle.slot_core.specs.declared.stub.Stub.{Stub}
use Rattle.receipts.specs.Events.{Note}

-- the refusal of the call that a section's is: want of memory is none
abbrev pub refusal_by : SlotFault → Option Refusal
refusal_by (Quorum (ReadQuorum whys)) = Some (refusal.ReadQuorum whys)
refusal_by (Quorum (WriteQuorum whys)) = Some (refusal.WriteQuorum whys)
refusal_by (Quorum (Undecided k u whys)) = Some (refusal.Undecided k u whys)
refusal_by (Quorum NoMemoryQuorum) = None
refusal_by (Key why) = Some (refusal_of why)
refusal_by SeqSpent = Some refusal.SeqSpent
refusal_by (AuditFailed before after) = Some (refusal.AuditFailed before after)
refusal_by NoMemory = None
refusal_by (NotInFlight id) = Some (refusal.NotInFlight id)

-- the note of a stub
abbrev pub note_of : Stub → Note
note_of stub = record { slot = stub.slot; ticket = stub.ticket; entry = stub.entry; refusal = option_and_then refusal_by stub.fault }

-- that of a stub, if there is one, and those of several
abbrev pub noted : Option Stub → Option Note
noted stub = option_map note_of stub

abbrev pub notes_by : List Stub → List Note
notes_by stubs = map note_of stubs

-- the entry of a note, if there is one
abbrev pub entry_in : Option Note → Option Entry
entry_in None = None
entry_in (Some note) = note.entry

-- an entry has this ticket, where there is one
abbrev pub HasTicket : Option Entry → ℕ → Type 0
HasTicket None ticket = Unit {0}
HasTicket (Some entry) ticket = entry.ticket ≡ ticket

-- a note is that of a section of a slot that had these numbers: it tells the slot and the section's ticket, and its entry does too
pub record IsNoteOf (numbers : SlotNumbers) (note : Note) : Type 0 where
  pub slot : note.slot ≡ numbers.index
  pub ticket : note.ticket ≡ numbers.turns
  pub entry : HasTicket note.entry numbers.turns

-- that of a section, if it has one
abbrev pub IsNoted : SlotNumbers → Option Note → Type 0
IsNoted numbers None = Unit {0}
IsNoted numbers (Some note) = IsNoteOf numbers note

-- what an audit has after a section: one entry more, where its note has one
abbrev pub AuditHas : Option Note → Option (List Entry) → Option (List Entry) → Type 0
AuditHas note old new = MatchOption (entry_in note) (new ≡ old) (λ entry. new ≡ with_entry old entry)

-- the faults of an audit over a section: they rise where it is refused for that, from what it says to what it says
abbrev pub CountsBy : Option Refusal → ℕ → ℕ → Type 0
CountsBy None old new = new ≡ old
CountsBy (Some (refusal.AuditFailed before after)) old new = (before ≡ old) × (after ≡ new) × Rose old new
CountsBy (Some other) old new = new ≡ old

abbrev pub AuditCounts : Option Note → ℕ → ℕ → Type 0
AuditCounts None old new = new ≡ old
AuditCounts (Some note) old new = CountsBy note.refusal old new
