-- What each section does: whatever the drives tell, and where its lanes stand for a state.
use Rattle.std.specs.Prelude.{◌≡◌, ◌≢◌, ◌↔◌, ℕ, Bool, List, Option, Some, None, Result, Err}
use Rattle.std.specs.Int.{IsBitSet}
use Rattle.audit_trail.specs.declared.entry.Entry.{Entry}
use Rattle.drive_base.specs.Files.{Files}
use Rattle.vote_core.specs.Lane.{lane_at}
use Rattle.slot_history.specs.Sections.{SectionMoves}
use Rattle.slot_history.specs.Standing.{Records}
use Rattle.slot_history.specs.State.{State}
use Rattle.slot_data.specs.Disks.{Disks}
use Rattle.slot_data.specs.Holding.{Hands, Holding}
use Rattle.slot_data.specs.Standing.{DataStands}
use Rattle.slot_core.specs.Calm.{SectionCalms}
use Rattle.slot_core.specs.Numbers.{AreSpent, NumbersMove}
use Rattle.slot_core.specs.Standing.{SlotStands}
use Rattle.slot_core.specs.Stubs.{AuditCounts, AuditHas, StubOfEntry, StubOfNone, entry_of}
use Rattle.slot_core.specs.Views.{SlotNumbers, last_of, quorum_of}
use Rattle.slot_core.specs.declared.slot.SlotFault.{SlotFault}
use Rattle.slot_core.specs.declared.slot.SlotFault.TheVariants.{SeqSpent}
use Rattle.slot_core.specs.declared.stub.Stub.{Stub}

-- a section that writes an entry, whatever the drives tell: one turn more; its stub is that of its answer, and what the stub has as entry is what the
-- audit got; it is refused for its numbers exactly where they are spent
pub record Turns {T : Type 0} (numbers_old numbers_new : SlotNumbers) (audit_old audit_new : Option (List Entry)) (faults_old faults_new : ℕ)
    (answer : Result T SlotFault) (stub : Option Stub) : Type 0 where
  pub numbers : NumbersMove numbers_old numbers_new
  pub stub_is : StubOfEntry numbers_old answer stub
  pub audit : AuditHas stub audit_old audit_new
  pub faults : AuditCounts answer faults_old faults_new
  pub spent : (answer ≡ Err SeqSpent) ↔ AreSpent numbers_old

-- a section that writes no entry, and draws no number or draws one: nothing is written down, and no lane is written
pub record TurnsQuietly {T : Type 0} (numbers_old numbers_new : SlotNumbers) (audit_old audit_new : Option (List Entry)) (faults_old faults_new : ℕ)
    (answer : Result T SlotFault) (stub : Option Stub) : Type 0 where
  pub numbers : NumbersMove numbers_old numbers_new
  pub count : numbers_new.count ≡ numbers_old.count
  pub stub_is : StubOfNone numbers_old answer stub
  pub audit : audit_new ≡ audit_old
  pub faults : faults_new ≡ faults_old

-- a section that writes an entry, draws no number and writes no lane: it is never refused for its numbers
pub record TurnsUnspent {T : Type 0} (numbers_old numbers_new : SlotNumbers) (audit_old audit_new : Option (List Entry)) (faults_old faults_new : ℕ)
    (answer : Result T SlotFault) (stub : Option Stub) : Type 0 where
  pub numbers : NumbersMove numbers_old numbers_new
  pub drawn : numbers_new.seq ≡ numbers_old.seq
  pub count : numbers_new.count ≡ numbers_old.count
  pub stub_is : StubOfEntry numbers_old answer stub
  pub audit : AuditHas stub audit_old audit_new
  pub faults : AuditCounts answer faults_old faults_new
  pub unspent : answer ≢ Err SeqSpent

-- what a section leaves of the state: where it wrote no entry nothing moved, and else its entry moves it, and its answer shows
-- something of the states before and after its deed
abbrev pub EntryMoves : ℕ → Option Entry → (State → State → Type 0) → Records → State → Records → State → Type 0
EntryMoves slot None Shows records_old old records_new new = (records_new ≡ records_old) × (new ≡ old)
EntryMoves slot (Some entry) Shows records_old old records_new new =
    (moves : SectionMoves slot entry records_old old records_new new) × Shows moves.before moves.after

module _ {D : Type 0} (tells : D → Bool) (files : D → Files) where
  -- what a section leaves of lanes that stood for a state: they stand for a state to which its entry moved, and the data goes on to stand. In the place
  -- of a lane that is out the records are as they were
  pub record TurnLeaves (numbers_old numbers_new : SlotNumbers) (held_old held_new : Holding) (lanes_new : List D) (stub : Option Stub)
      (Shows : State → State → Type 0) (Moves : Disks → Hands → Hands → Type 0) (records : Records) (state : State) : Type 0 where
    pub after : Records
    pub now : State
    pub stands : SlotStands tells files numbers_new held_new.flights lanes_new after now
    pub stay : (name : List ℕ) (k : ℕ) → IsBitSet numbers_old.set.out k → lane_at (after name) k ≡ lane_at (records name) k
    pub moves : EntryMoves numbers_old.index (entry_of stub) Shows records state after now
    pub calm : SectionCalms (quorum_of numbers_old) (entry_of stub) records state after now
    pub holds : (disks : Disks) (hands later : Hands) → Moves disks hands later
        → DataStands numbers_old.set numbers_old.index (last_of numbers_old) records state held_old disks hands
        → DataStands numbers_old.set numbers_old.index (last_of numbers_new) after now held_new disks later

  -- so a section does over every state for which its lanes stand
  abbrev pub Leaves : SlotNumbers → SlotNumbers → Holding → Holding → List D → List D → Option Stub → (State → State → Type 0)
      → (Disks → Hands → Hands → Type 0) → Type 0
  Leaves numbers_old numbers_new held_old held_new lanes_old lanes_new stub Shows Moves = (records : Records) (state : State)
      → SlotStands tells files numbers_old held_old.flights lanes_old records state
      → TurnLeaves numbers_old numbers_new held_old held_new lanes_new stub Shows Moves records state
