-- Why a register refuses a section, whatever the drives tell: the calls of the section, of which one was refused.
use Rattle.std.specs.Prelude.{◌≡◌, ◌≢◌, ◌⊎◌, ℕ, ◌+◌, ◌<◌, List, Option, Some, None, Result, Ok, Err}
use Rattle.call_types.specs.Good.{good_count}
use Rattle.call_types.specs.declared.why.Why.{Why}
use Rattle.drive_base.specs.declared.drive.Drive.{Ghosts}
use Rattle.register_file.specs.declared.record.Next.{Next}
use Rattle.stamp_id.specs.declared.stamp.Ballot.{Ballot}
use Rattle.stamp_id.specs.declared.stamp.ChangeId.{ChangeId}
use Rattle.register_core.specs.Found.{content_of}
use Rattle.register_core.specs.Looks.{IsLooked}
use Rattle.register_core.specs.declared.faults.QuorumFault.{QuorumFault}
use Rattle.register_core.specs.declared.faults.QuorumFault.TheVariants.{WriteQuorum, NoMemory as NoMemoryQuorum}
use Rattle.register_core.specs.declared.looks.Looked.{Looked}
use Rattle.register_caller.specs.Pending.{WritesAgain}
use Rattle.register_caller.specs.Steps.{LookIsRefused}
use Rattle.slot_rules.specs.Rules.{longest_for, rule_for}
use Rattle.slot_core.specs.Views.{SlotNumbers, quorum_of}
use Rattle.slot_core.specs.declared.slot.SlotFault.{SlotFault}
use Rattle.slot_core.specs.declared.slot.SlotFault.TheVariants.{Quorum, Key, SeqSpent, AuditFailed, NoMemory, NotInFlight}
use Rattle.slot_core.specs.LanesStay.{FilesStay}

-- what a section tells of what its look found pending, and which number it drew to complete it: its change, under one number more; none where nothing was
abbrev pub Completes : SlotNumbers → SlotNumbers → Option Next → Option ChangeId → Type 0
Completes numbers later None late = (late ≡ None) × (later.seq ≡ numbers.seq)
Completes numbers later (Some found) late = (late ≡ Some found.change) × (later.seq ≡ numbers.seq + 1)

module _ {D : Type 0} (ghosts : Ghosts D) where
  -- a section's look at a register could conclude
  pub record Concluded (numbers : SlotNumbers) (name : List ℕ) (rule : List ℕ → Option ℕ) (longest : ℕ) (looked : Looked) (old mid disks disks_after : List D) : Type 0 where
    pub looks : IsLooked ghosts numbers.set numbers.set.out name rule longest looked old mid disks disks_after
    pub stay : FilesStay ghosts old mid

  -- what was pending was not written again, since fewer lanes were good than a write needs: the letters are those of the look, and nothing was written
  pub record NotForwarded (numbers : SlotNumbers) (name : List ℕ) (rule : List ℕ → Option ℕ) (longest : ℕ) (fault : QuorumFault) (old new disks disks_after : List D) : Type 0 where
    pub looked : Looked
    pub concluded : Concluded numbers name rule longest looked old new disks disks_after
    pub found : Next
    pub pending : looked.pending ≡ Some found
    pub few : good_count looked.whys < quorum_of numbers
    pub letters : fault ≡ WriteQuorum looked.whys

  -- it was written again under the next ballot of the slot, and too few lanes took it
  pub record ForwardRefused (numbers : SlotNumbers) (to : ℕ) (name : List ℕ) (rule : List ℕ → Option ℕ) (longest : ℕ) (fault : QuorumFault) (old new disks disks_after : List D) : Type 0 where
    pub looked : Looked
    pub mid : List D
    pub concluded : Concluded numbers name rule longest looked old mid disks disks_after
    pub ballot : Ballot
    pub term : ballot.term ≡ numbers.term
    pub seq : ballot.seq ≡ numbers.seq + 1
    pub writes : WritesAgain ghosts numbers.set.out numbers.term looked ballot numbers.count to (Err fault) mid new

  -- why a section that writes nothing of its own is refused by the register. It drew a number only where it wrote what was pending again
  abbrev pub LookCause : SlotNumbers → SlotNumbers → List ℕ → (List ℕ → Option ℕ) → ℕ → QuorumFault → List D → List D → List D → List D → Type 0
  LookCause numbers later name rule longest fault old new disks disks_after =
      (LookIsRefused ghosts numbers.set numbers.set.out name rule longest numbers.count later.count fault old new disks disks_after
      × (later.seq ≡ numbers.seq))
      ⊎ ((NotForwarded numbers name rule longest fault old new disks disks_after × (later.seq ≡ numbers.seq))
      ⊎ (ForwardRefused numbers later.count name rule longest fault old new disks disks_after × (later.seq ≡ numbers.seq + 1)))

  -- a look could conclude, and what was pending, if anything, was completed under the next ballot of the slot
  pub record LookGave (numbers : SlotNumbers) (to : ℕ) (name : List ℕ) (rule : List ℕ → Option ℕ) (longest : ℕ) (content : List ℕ) (old new disks disks_after : List D) : Type 0 where
    pub looked : Looked
    pub mid : List D
    pub concluded : Concluded numbers name rule longest looked old mid disks disks_after
    pub content_is : content ≡ content_of looked.base looked.pending
    pub none_used : looked.pending ≡ None → to ≡ numbers.count
    pub ballot : Ballot
    pub term : ballot.term ≡ numbers.term
    pub seq : ballot.seq ≡ numbers.seq + 1
    pub how : ((looked.pending ≡ None) × (new ≡ mid))
        ⊎ ((letters : List Why) × WritesAgain ghosts numbers.set.out numbers.term looked ballot numbers.count to (Ok letters) mid new)

  -- what a look says of its calls, by its answer and the change that its entry tells as completed, whatever the drives tell. Want of memory is told as that alone
  abbrev pub PeekCause : SlotNumbers → SlotNumbers → List ℕ → Result (List ℕ) SlotFault → Option ChangeId → List D → List D → List D → List D → Type 0
  PeekCause numbers later name (Ok content) late old new disks disks_after =
      (gave : LookGave numbers later.count name (rule_for name) (longest_for name) content old new disks disks_after)
      × Completes numbers later gave.looked.pending late
  PeekCause numbers later name (Err (Quorum fault)) late old new disks disks_after = (fault ≢ NoMemoryQuorum) × (late ≡ None)
      × LookCause numbers later name (rule_for name) (longest_for name) fault old new disks disks_after
  PeekCause numbers later name (Err (Key _)) late old new disks disks_after = ⊥
  PeekCause numbers later name (Err SeqSpent) late old new disks disks_after = new ≡ old
  PeekCause numbers later name (Err (AuditFailed _ _)) late old new disks disks_after = new ≡ old
  PeekCause numbers later name (Err NoMemory) late old new disks disks_after = FilesStay ghosts old new
  PeekCause numbers later name (Err (NotInFlight _)) late old new disks disks_after = ⊥
