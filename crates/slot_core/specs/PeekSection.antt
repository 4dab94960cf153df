-- What a look at a register leaves and tells, apart from the slot that has it.
use Rattle.std.specs.Prelude.{◌≡◌, ◌≢◌, ℕ, Bool, List, Option, Result, Ok, Err}
use Rattle.drive_base.specs.declared.drive.Drive.{Ghosts}
use Rattle.drive_base.specs.Files.{Files}
use Rattle.stamp_id.specs.declared.stamp.ChangeId.{ChangeId}
use Rattle.audit_trail.specs.declared.entry.Entry.{Entry}
use Rattle.register_core.specs.declared.faults.QuorumFault.{QuorumFault}
use Rattle.register_core.specs.declared.faults.QuorumFault.TheVariants.{ReadQuorum, WriteQuorum, Undecided, NoMemory}
use Rattle.slot_history.specs.Moving.{IsLast}
use Rattle.slot_history.specs.Standing.{Records}
use Rattle.slot_history.specs.State.{State}
use Rattle.slot_data.specs.Holding.{Holding}
use Rattle.slot_rules.specs.Rules.{longest_for, rule_for}
use Rattle.slot_rules.specs.declared.site.Drawn.{Drawn}
use Rattle.slot_rules.specs.declared.site.Site.{Site}
use Rattle.slot_core.specs.Causes.{LookCause, PeekCause}
use Rattle.slot_core.specs.Hands.{HandsStay}
use Rattle.slot_core.specs.Sections.{ShowsContent}
use Rattle.slot_core.specs.Settlement.{Settled, numbers_at}
use Rattle.slot_core.specs.Standing.{SlotStands}
use Rattle.slot_core.specs.Stubs.{AuditCounts, AuditHas, StubOfEntry}
use Rattle.slot_core.specs.Turns.{Leaves}
use Rattle.slot_core.specs.Views.{SlotNumbers}
use Rattle.slot_core.specs.declared.slot.SlotFault.{SlotFault}
use Rattle.slot_core.specs.declared.slot.SlotFault.TheVariants.{SeqSpent}
use Rattle.slot_core.specs.declared.peek_section.Peeked.{Peeked}
use Rattle.slot_core.specs.declared.peek_section.Peeked.TheVariants.{Found, Refused, LacksMemory}
use Rattle.slot_core.specs.declared.stub.Stub.{Stub}
use Rattle.slot_core.specs.declared.stub.Turn.{Turn}
use Rattle.slot_core.specs.LanesStay.{FilesStay}

-- what a section that wasn't refused for its numbers tells, whatever the drives tell
pub record TurnsAt {T : Type 0} (numbers : SlotNumbers) (audit_old audit_new : Option (List Entry)) (faults_old faults_new : ℕ)
    (answer : Result T SlotFault) (stub : Option Stub) : Type 0 where
  pub stub_is : StubOfEntry numbers answer stub
  pub audit : AuditHas stub audit_old audit_new
  pub faults : AuditCounts answer faults_old faults_new
  pub unspent : answer ≢ Err SeqSpent

-- what is known of a register that was looked at
pub record KnownContent (name content : List ℕ) (late : Option ChangeId) (state : State) : Type 0 where
  pub content_is : content ≡ (state.registers name).content
  pub is_last : IsLast late (state.registers name)

-- a refusal of the register, where want of memory is told as that alone
abbrev pub IsRefusal : {T : Type 0} → QuorumFault → Peeked T → Type 0
IsRefusal (ReadQuorum whys) peeked = peeked ≡ Refused (ReadQuorum whys)
IsRefusal (WriteQuorum whys) peeked = peeked ≡ Refused (WriteQuorum whys)
IsRefusal (Undecided k u whys) peeked = peeked ≡ Refused (Undecided k u whys)
IsRefusal NoMemory peeked = peeked ≡ LacksMemory

module _ {D : Type 0} (tells : D → Bool) (files : D → Files) where
  -- what a look and the completion after it leave, by what they gave: of the state something is known then; want of memory moves nothing
  abbrev pub GivesOver : {T : Type 0} → SlotNumbers → SlotNumbers → Holding → (T → Option ChangeId → State → Type 0) → Peeked T → List D → Records → State → Type 0
  GivesOver numbers later holding Known (Found given late) new records state =
      Settled tells files numbers later holding (λ after now. Known given late now) new records state
  GivesOver numbers later holding Known (Refused fault) new records state = Settled tells files numbers later holding (λ after now. Unit {0}) new records state
  GivesOver numbers later holding Known LacksMemory new records state = SlotStands tells files later holding.flights new records state

  -- so it is where the content is given
  abbrev pub PeekLeaves : SlotNumbers → SlotNumbers → Holding → List ℕ → Peeked (List ℕ) → List D → Records → State → Type 0
  PeekLeaves numbers later holding name peeked new records state =
      GivesOver numbers later holding (λ content late now. KnownContent name content late now) peeked new records state

  -- and over every state for which the lanes stood
  abbrev pub LookLeaves : Site → Drawn → Drawn → List ℕ → Peeked (List ℕ) → List D → List D → Type 0
  LookLeaves site drawn later name peeked old new = (holding : Holding) (records : Records) (state : State)
      → SlotStands tells files (numbers_at site drawn) holding.flights old records state
      → PeekLeaves (numbers_at site drawn) (numbers_at site later) holding name peeked new records state

  -- what a whole look leaves, whatever its slot holds
  abbrev pub PeekTurnLeaves : Site → Drawn → Drawn → List ℕ → Turn (List ℕ) → List D → List D → Type 0
  PeekTurnLeaves site drawn later name turn old new = (holding : Holding)
      → Leaves tells files (numbers_at site drawn) (numbers_at site later) holding holding old new turn.stub (ShowsContent name turn.answer) HandsStay

module _ {D : Type 0} (ghosts : Ghosts D) where
  -- the calls of a look and of the completion after it, by what they gave
  abbrev pub GivesBy : {T : Type 0} → SlotNumbers → SlotNumbers → List ℕ → (T → Option ChangeId → Type 0) → Peeked T → List D → List D → List D → List D → Type 0
  GivesBy numbers later name Gave (Found given late) old new disks disks_after = Gave given late
  GivesBy numbers later name Gave (Refused fault) old new disks disks_after = (fault ≢ NoMemory)
      × LookCause ghosts numbers later name (rule_for name) (longest_for name) fault old new disks disks_after
  GivesBy numbers later name Gave LacksMemory old new disks disks_after = FilesStay ghosts old new

  -- so it is where the content is given
  abbrev pub PeekCalls : SlotNumbers → SlotNumbers → List ℕ → Peeked (List ℕ) → List D → List D → List D → List D → Type 0
  PeekCalls numbers later name peeked old new disks disks_after =
      GivesBy numbers later name (λ content late. PeekCause ghosts numbers later name (Ok content) late old new disks disks_after) peeked
      old new disks disks_after
