-- From which calls the answer of a commit comes, whatever the drives tell.
use Rattle.std.specs.Prelude.{◌≡◌, ◌≢◌, ◌⊎◌, ◌<◌, ◌+◌, ℕ, List, Option, Some, None, Result, Ok, Err, length}
use Rattle.audit_trail.specs.declared.entry.Deed.{Deed}
use Rattle.audit_trail.specs.declared.entry.Deed.TheVariants.{Done, Kept as KeptDeed, Refused as RefusedDeed}
use Rattle.audit_trail.specs.declared.entry.Entry.{Entry}
use Rattle.call_types.specs.Refusals.{refusal_of}
use Rattle.call_types.specs.declared.act.Brief.TheVariants.{Answer}
use Rattle.call_types.specs.declared.reply.Reply.{Reply}
use Rattle.call_types.specs.declared.reply.Reply.TheVariants.{Refused}
use Rattle.call_types.specs.declared.why.Why.{Why}
use Rattle.bucket_book.specs.Content.{content_fault}
use Rattle.drive_base.specs.declared.drive.Drive.{Ghosts}
use Rattle.register_file.specs.declared.record.Next.{Next}
use Rattle.stamp_id.specs.declared.stamp.Ballot.{Ballot}
use Rattle.stamp_id.specs.declared.stamp.ChangeId.{ChangeId}
use Rattle.stamp_id.specs.declared.version.VersionId.{VersionId}
use Rattle.register_core.specs.Drafts.{IsDraftAfterDraft, IsDraftAfterLook}
use Rattle.register_core.specs.Found.{content_of}
use Rattle.register_core.specs.Records.{again_of}
use Rattle.register_core.specs.declared.drafts.Draft.{Draft}
use Rattle.register_core.specs.declared.faults.QuorumFault.{QuorumFault}
use Rattle.register_core.specs.declared.faults.QuorumFault.TheVariants.{NoMemory as NoMemoryQuorum}
use Rattle.register_core.specs.declared.looks.Looked.{Looked}
use Rattle.register_caller.specs.Steps.{WritesBoth}
use Rattle.upload_book.specs.Content.{content_fault as part_fault}
use Rattle.slot_rules.specs.Deeds.{call_of, name_of}
use Rattle.slot_rules.specs.Owning.{IsOwnId, SlotLife, own_seq}
use Rattle.slot_rules.specs.Planning.{DoesOver, adds_of}
use Rattle.slot_rules.specs.Rules.{key_fault}
use Rattle.slot_rules.specs.declared.commit.Commit.TheVariants.{Key, Part, MakeBucket, SetMode}
use Rattle.slot_rules.specs.declared.commit.Commit.{Commit}
use Rattle.slot_rules.specs.declared.commit.Committed.{Committed}
use Rattle.slot_rules.specs.declared.rules.TheConstants.{BUCKET_BYTES, KEY_BYTES, PART_BYTES}
use Rattle.slot_core.specs.Causes.{Concluded, LookCause, LookGave}
use Rattle.slot_core.specs.Views.{SlotNumbers}
use Rattle.slot_core.specs.declared.slot.SlotFault.{SlotFault}
use Rattle.slot_core.specs.declared.slot.SlotFault.TheVariants.{Quorum, Key as KeyFault, SeqSpent, AuditFailed, NoMemory, NotInFlight}
use Rattle.slot_core.specs.LanesStay.{FilesStay, TellsStay}

-- the life in which a slot has these numbers
abbrev pub life_of : SlotNumbers → SlotLife
life_of numbers = record { index = numbers.index; term = numbers.term }

-- the rule of the content over which a deed is done: a key's names no id that the change may have, a bucket's and a part's are their own
abbrev pub IsRuleOf : SlotNumbers → Commit → Option VersionId → (List ℕ → Option ℕ) → ℕ → Type 0
IsRuleOf numbers (Key at mode act) put rule longest = (alone after : VersionId) × IsOwnId (life_of numbers) numbers.seq put alone
    × IsOwnId (life_of numbers) (numbers.seq + 1) put after × (rule ≡ key_fault (Some alone) (Some after)) × (longest ≡ KEY_BYTES)
IsRuleOf numbers (Part at upload number part) put rule longest = (rule ≡ part_fault) × (longest ≡ PART_BYTES)
IsRuleOf numbers (MakeBucket bucket) put rule longest = (rule ≡ content_fault) × (longest ≡ BUCKET_BYTES)
IsRuleOf numbers (SetMode bucket mode) put rule longest = (rule ≡ content_fault) × (longest ≡ BUCKET_BYTES)

-- an own change is that of the put which ends, or was drawn just before its ballot
abbrev pub IsChangeAt : SlotNumbers → ℕ → Option VersionId → ChangeId → Type 0
IsChangeAt numbers ballot None change = (change.0.term ≡ numbers.term) × (numbers.seq < change.0.seq) × (change.0.seq + 1 ≡ ballot)
IsChangeAt numbers ballot (Some id) change = change ≡ id.change

-- the own change of a deed over a content: its numbers, which are drawn next, or after that of what is completed first; its data; and what it makes of the
-- content, which is another one
pub record IsOwnChangeOf (numbers later : SlotNumbers) (deed : Commit) (put : Option VersionId) (now : ℕ) (content : List ℕ) (reply : Reply) (own : Next) : Type 0 where
  pub change : IsChangeAt numbers own.ballot.seq put own.change
  pub term : own.ballot.term ≡ numbers.term
  pub seq : own.ballot.seq ≡ later.seq
  pub drawn : (own.ballot.seq ≡ own_seq numbers.seq put) ⊎ (own.ballot.seq ≡ own_seq (numbers.seq + 1) put)
  pub adds : own.adds ≡ adds_of deed
  pub id : VersionId
  pub id_change : id.change ≡ own.change
  pub id_slot : id.slot ≡ numbers.index
  pub does : DoesOver (name_of deed) content (call_of deed (Some own.change) now) id reply own.content
  pub changed : own.content ≢ content

-- what the entry of a section says that was done of its own, if it wrote one
abbrev pub deed_in : Option Entry → Deed
deed_in None = KeptDeed
deed_in (Some entry) = entry.deed

-- what it says of an own change, by the answer of its writes: the call and its reply, or that it was begun
abbrev pub own_deed : Commit → ℕ → ChangeId → Reply → Result (List Why) QuorumFault → Deed
own_deed deed now change reply (Ok letters) = Done (call_of deed (Some change) now) (Answer reply)
own_deed deed now change reply (Err fault) = RefusedDeed change (call_of deed (Some change) now)

module _ {D : Type 0} (ghosts : Ghosts D) where
  -- a change of its own was drafted over what the look settled, and written with this answer
  pub record OwnAtOnce (numbers later : SlotNumbers) (name : List ℕ) (rule : List ℕ → Option ℕ) (longest : ℕ) (content : List ℕ) (own : Next)
      (result : Result (List Why) QuorumFault) (old new disks disks_after : List D) : Type 0 where
    pub looked : Looked
    pub mid : List D
    pub concluded : Concluded ghosts numbers name rule longest looked old mid disks disks_after
    pub long : length mid ≡ length old
    pub tell : TellsStay ghosts old mid
    pub settled : looked.pending ≡ None
    pub content_is : content ≡ content_of looked.base looked.pending
    pub draft : Draft
    pub drafted : IsDraftAfterLook looked own draft
    pub writes : WritesBoth ghosts draft numbers.set.out numbers.term numbers.count later.count result mid new

  -- or over what was pending, which was completed first
  pub record OwnAfterAgain (numbers later : SlotNumbers) (name : List ℕ) (rule : List ℕ → Option ℕ) (longest : ℕ) (content : List ℕ) (own : Next)
      (result : Result (List Why) QuorumFault) (old new disks disks_after : List D) : Type 0 where
    pub looked : Looked
    pub mid : List D
    pub concluded : Concluded ghosts numbers name rule longest looked old mid disks disks_after
    pub long : length mid ≡ length old
    pub tell : TellsStay ghosts old mid
    pub found : Next
    pub pending : looked.pending ≡ Some found
    pub content_is : content ≡ content_of looked.base looked.pending
    pub ballot : Ballot
    pub first : Draft
    pub first_drafted : IsDraftAfterLook looked (again_of looked.base ballot found) first
    pub letters : List Why
    pub middle : ℕ
    pub between : List D
    pub forward : WritesBoth ghosts first numbers.set.out numbers.term numbers.count middle (Ok letters) mid between
    pub draft : Draft
    pub drafted : IsDraftAfterDraft first own draft
    pub writes : WritesBoth ghosts draft numbers.set.out numbers.term middle later.count result between new

  abbrev pub OwnIsWritten : SlotNumbers → SlotNumbers → List ℕ → (List ℕ → Option ℕ) → ℕ → List ℕ → Next → Result (List Why) QuorumFault
      → List D → List D → List D → List D → Type 0
  OwnIsWritten numbers later name rule longest content own result old new disks disks_after =
      OwnAtOnce numbers later name rule longest content own result old new disks disks_after
      ⊎ OwnAfterAgain numbers later name rule longest content own result old new disks disks_after

  -- the look gave a content which the deed leaves, with this reply; nothing of its own was written, and the entry tells no change
  pub record FoundSo (numbers later : SlotNumbers) (deed : Commit) (put : Option VersionId) (now : ℕ) (reply : Reply) (entered : Deed) (old new disks disks_after : List D) : Type 0 where
    pub rule : List ℕ → Option ℕ
    pub longest : ℕ
    pub rule_is : IsRuleOf numbers deed put rule longest
    pub content : List ℕ
    pub gave : LookGave ghosts numbers later.count (name_of deed) rule longest content old new disks disks_after
    pub id : VersionId
    pub does : DoesOver (name_of deed) content (call_of deed None now) id reply content
    pub deed_is : entered ≡ Done (call_of deed None now) (Answer reply)

  -- the look gave a content of which the deed makes another one, with this reply; its own change, which the entry tells, was written with this answer
  pub record WroteSo (numbers later : SlotNumbers) (deed : Commit) (put : Option VersionId) (now : ℕ) (reply : Reply) (result : Result (List Why) QuorumFault)
      (entered : Deed) (old new disks disks_after : List D) : Type 0 where
    pub rule : List ℕ → Option ℕ
    pub longest : ℕ
    pub rule_is : IsRuleOf numbers deed put rule longest
    pub content : List ℕ
    pub own : Next
    pub is_own : IsOwnChangeOf numbers later deed put now content reply own
    pub written : OwnIsWritten numbers later (name_of deed) rule longest content own result old new disks disks_after
    pub deed_is : entered ≡ own_deed deed now own.change reply result

  -- the register refused the look, or the completion of what was pending; the entry says that nothing was done
  pub record LookRefused (numbers later : SlotNumbers) (deed : Commit) (put : Option VersionId) (fault : QuorumFault) (entered : Deed) (old new disks disks_after : List D) : Type 0 where
    pub rule : List ℕ → Option ℕ
    pub longest : ℕ
    pub rule_is : IsRuleOf numbers deed put rule longest
    pub cause : LookCause ghosts numbers later (name_of deed) rule longest fault old new disks disks_after
    pub deed_is : entered ≡ KeptDeed

  -- what a commit that is told says, by its answer and by what its entry says that was done. Want of memory is told as that alone
  abbrev pub CommitCause : SlotNumbers → SlotNumbers → Commit → Option VersionId → ℕ → Result Committed SlotFault → Deed → List D → List D → List D → List D → Type 0
  CommitCause numbers later deed put now (Ok made) entered old new disks disks_after =
      FoundSo numbers later deed put now made.done entered old new disks disks_after
      ⊎ ((letters : List Why) × WroteSo numbers later deed put now made.done (Ok letters) entered old new disks disks_after)
  CommitCause numbers later deed put now (Err (Quorum fault)) entered old new disks disks_after = (fault ≢ NoMemoryQuorum)
      × (LookRefused numbers later deed put fault entered old new disks disks_after
      ⊎ ((reply : Reply) × WroteSo numbers later deed put now reply (Err fault) entered old new disks disks_after))
  CommitCause numbers later deed put now (Err (KeyFault why)) entered old new disks disks_after =
      FoundSo numbers later deed put now (Refused (refusal_of why)) entered old new disks disks_after
  CommitCause numbers later deed put now (Err SeqSpent) entered old new disks disks_after = new ≡ old
  CommitCause numbers later deed put now (Err (AuditFailed _ _)) entered old new disks disks_after = new ≡ old
  CommitCause numbers later deed put now (Err NoMemory) entered old new disks disks_after = FilesStay ghosts old new
  CommitCause numbers later deed put now (Err (NotInFlight _)) entered old new disks disks_after = new ≡ old
