-- How a commit begins.
use Rattle.std.specs.Prelude.{◌≡◌, ℕ, List, None, Err, string_bytes}
use Rattle.slot_rules.specs.declared.site.Site.{Site}
use Rattle.slot_core.specs.AuditEntry.{IsKeptOf, IsRefusedTurn}
use Rattle.slot_core.specs.declared.commit_entry.Opening.{Opening}
use Rattle.slot_core.specs.declared.slot.SlotFault.TheVariants.{AuditFailed, NoMemory as LacksMemory}
use Rattle.slot_core.specs.declared.audit_entry.ReserveFault.{ReserveFault}
use Rattle.slot_core.specs.declared.audit_entry.ReserveFault.TheVariants.{Failed, NoMemory}
use Rattle.slot_core.specs.declared.stub.Turn.{Turn}

-- the name of a register, and the entries of a section about it that say that nothing was done
pub record IsOpening (ticket : ℕ) (name : List ℕ) (opening : Opening) : Type 0 where
  pub name_is : string_bytes opening.name ≡ name
  pub entries : IsKeptOf ticket name opening.entries

-- the turn of a section that found no memory
pub record HasNoTurn {T : Type 0} (turn : Turn T) : Type 0 where
  pub answer : turn.answer ≡ Err LacksMemory
  pub stub : turn.stub ≡ None

-- the turn of a section whose audit has no room
abbrev pub IsUnreserved : {T : Type 0} → Site → ReserveFault → Turn T → Type 0
IsUnreserved site (Failed before after) turn = IsRefusedTurn site (AuditFailed before after) turn
IsUnreserved site NoMemory turn = HasNoTurn turn
