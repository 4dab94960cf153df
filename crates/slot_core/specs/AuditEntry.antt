-- Entries and stubs of a section.
use Rattle.std.specs.Prelude.{◌≡◌, ℕ, List, Option, Some, None, Result, Ok, Err}
use Rattle.fault_base.specs.Counts.{Rose}
use Rattle.stamp_id.specs.declared.stamp.ChangeId.{ChangeId}
use Rattle.audit_trail.specs.declared.entry.Deed.TheVariants.{Kept}
use Rattle.audit_trail.specs.declared.entry.Entry.{Entry}
use Rattle.slot_rules.specs.declared.site.Site.{Site}
use Rattle.slot_core.specs.declared.slot.SlotFault.{SlotFault}
use Rattle.slot_core.specs.declared.audit_entry.Entries.{Entries}
use Rattle.slot_core.specs.declared.audit_entry.ReserveFault.{ReserveFault}
use Rattle.slot_core.specs.declared.audit_entry.ReserveFault.TheVariants.{Failed, NoMemory}
use Rattle.slot_core.specs.declared.stub.Stub.{Stub}
use Rattle.slot_core.specs.declared.stub.Turn.{Turn}

-- the entry of a section that does nothing of its own
abbrev pub kept_entry : ℕ → List ℕ → Option ChangeId → Entry
kept_entry ticket name late = record { ticket = ticket; late = late; name = name; deed = Kept }

pub record IsKeptOf (ticket : ℕ) (name : List ℕ) (entries : Entries) : Type 0 where
  pub audit_is : entries.audit ≡ kept_entry ticket name None
  pub stub_is : entries.stub ≡ kept_entry ticket name None

-- an entry that tells which change was completed
abbrev pub has_late : Entry → Option ChangeId → Entry
has_late entry late = record { ticket = entry.ticket; late = late; name = entry.name; deed = entry.deed }

-- the stub of a section, with its entry or without one
pub record WritesDown (site : Site) (entry : Entry) (fault : Option SlotFault) (stub : Stub) : Type 0 where
  pub slot : stub.slot ≡ site.index
  pub ticket : stub.ticket ≡ site.turns
  pub entry_is : stub.entry ≡ Some entry
  pub fault_is : stub.fault ≡ fault

-- the turn of a section that was refused before it could write an entry
pub record IsRefusedTurn {T : Type 0} (site : Site) (fault : SlotFault) (turn : Turn T) : Type 0 where
  pub answer : turn.answer ≡ Err fault
  pub stub : Stub
  pub stub_is : turn.stub ≡ Some stub
  pub slot : stub.slot ≡ site.index
  pub ticket : stub.ticket ≡ site.turns
  pub no_entry : stub.entry ≡ None
  pub fault_is : stub.fault ≡ Some fault

-- the faults of an audit, where room was asked for
abbrev pub Reserves : {T : Type 0} → ℕ → ℕ → Result T ReserveFault → Type 0
Reserves old new (Ok _) = new ≡ old
Reserves old new (Err (Failed before after)) = (before ≡ old) × (after ≡ new) × Rose old new
Reserves old new (Err NoMemory) = new ≡ old
