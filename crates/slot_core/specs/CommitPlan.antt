-- What a commit leaves of a register, apart from the slot that has it.
use Rattle.std.specs.Prelude.{◌≡◌, ◌⊎◌, ◌≤◌, ℕ, ◌+◌, Bool, List, length, Option, Result, string_bytes}
use Rattle.drive_base.specs.declared.drive.Drive.{Ghosts}
use Rattle.drive_base.specs.Files.{Files}
use Rattle.stamp_id.specs.declared.version.VersionId.{VersionId}
use Rattle.drive_base.specs.declared.plan.SetPlan.{SetPlan}
use Rattle.audit_trail.specs.declared.entry.Deed.{Deed}
use Rattle.register_core.specs.Found.{content_of}
use Rattle.register_core.specs.declared.faults.QuorumFault.{QuorumFault}
use Rattle.register_core.specs.declared.faults.QuorumFault.TheVariants.{ReadQuorum, WriteQuorum, Undecided, NoMemory}
use Rattle.slot_history.specs.Standing.{Flying, Records}
use Rattle.slot_history.specs.State.{IsHeld, State}
use Rattle.slot_data.specs.Holding.{Holding}
use Rattle.slot_rules.specs.Deeds.{name_of}
use Rattle.slot_rules.specs.Owning.{IsDraftable, IsOwnId, again_takes, life_at}
use Rattle.slot_rules.specs.Planning.{IsPlanned, most_for}
use Rattle.slot_rules.specs.Plans.{IsPlan}
use Rattle.slot_rules.specs.declared.commit.Commit.{Commit}
use Rattle.slot_rules.specs.declared.commit.Committed.{Committed}
use Rattle.slot_rules.specs.declared.plans.Plan.{Plan}
use Rattle.slot_rules.specs.declared.ready.Ready.{Ready}
use Rattle.slot_rules.specs.declared.site.Ask.{Ask}
use Rattle.slot_rules.specs.declared.site.Drawn.{Drawn}
use Rattle.slot_rules.specs.declared.site.Site.{Site}
use Rattle.slot_core.specs.CommitCauses.{CommitCause}
use Rattle.slot_core.specs.CommitOutcome.{CallsCarry, EntryLeaves, FitsPut, Lands, answer_told, entry_told, kept_with}
use Rattle.slot_core.specs.Commits.{MayCommitData, ShowsTrash}
use Rattle.slot_core.specs.RegisterLook.{FirstFits}
use Rattle.slot_core.specs.Settlement.{IsReady, numbers_at}
use Rattle.slot_core.specs.Standing.{SlotStands}
use Rattle.slot_core.specs.declared.commit_plan.Work.{Work}
use Rattle.slot_core.specs.declared.commit_write.Outcome.{Outcome}
use Rattle.slot_core.specs.declared.commit_write.Outcome.TheVariants.{Kept, LacksMemory}
use Rattle.slot_core.specs.declared.slot.SlotFault.{SlotFault}
use Rattle.drive_base.specs.declared.drive.TheConstants.{LONGEST_NAME}
use Rattle.slot_core.specs.LanesStay.{FilesStay, TellsStay}

-- a refusal of the look, where want of memory is told as that alone
abbrev pub IsKeptBy : QuorumFault → Outcome → Type 0
IsKeptBy (ReadQuorum whys) outcome = outcome ≡ Kept (ReadQuorum whys)
IsKeptBy (WriteQuorum whys) outcome = outcome ≡ Kept (WriteQuorum whys)
IsKeptBy (Undecided k u whys) outcome = outcome ≡ Kept (Undecided k u whys)
IsKeptBy NoMemory outcome = outcome ≡ LacksMemory

-- what a section is ready for can be carried out: what is pending fits the set, and an own change may be drafted
pub record ReadyFits (set : SetPlan) (deed : Commit) (ready : Ready) : Type 0 where
  pub first : FirstFits set ready.first
  pub set_is : ready.looked.set ≡ set
  pub letters : length ready.looked.whys ≡ set.drives
  pub named : length (string_bytes ready.looked.name) ≤ LONGEST_NAME
  pub draftable : IsDraftable ready.looked ready.first
  pub within : most_for deed ≤ ready.looked.longest

-- what a commit has to do: its look gave what can be carried out, the id is that of its own change, and so the deed does to the content
pub record IsWork (ask : Ask) (deed : Commit) (seq : ℕ) (work : Work) : Type 0 where
  pub fits : ReadyFits ask.site.set deed work.ready
  pub id_is : IsOwnId (life_at ask.site) (seq + again_takes work.ready.first) ask.put work.id
  pub planned_is : IsPlanned deed ask.moment work.id (content_of work.ready.looked.base work.ready.looked.pending) work.planned

module _ {D : Type 0} (tells : D → Bool) (files : D → Files) where
  -- what a commit leaves over every state for which the lanes stood and in which its register's name is held, where this put ends
  abbrev pub CommitLeaves : Site → Drawn → Drawn → Commit → Option VersionId → Outcome → List VersionId → List VersionId → List D → List D → Type 0
  CommitLeaves site drawn later deed put outcome trash_old trash_new old new =
      (holding : Holding) (rest : List Flying) (records : Records) (state : State)
      → IsHeld state.registers (name_of deed) → SlotStands tells files (numbers_at site drawn) holding.flights old records state
      → Lands put holding.flights rest → FitsPut deed put
      → holding.trash ≡ trash_old
      → EntryLeaves tells files (numbers_at site drawn) (numbers_at site later) holding (kept_with holding rest trash_new) new
      (entry_told site.turns (name_of deed) outcome) (λ before after. ShowsTrash deed (answer_told outcome) trash_old trash_new before after)
      (λ disks hands less. MayCommitData deed (kept_with holding rest trash_new) disks hands less) records state

module _ {D : Type 0} (ghosts : Ghosts D) where
  -- the same after a look, over every state for which the lanes stood when they were looked at
  abbrev pub FinishLeaves : Site → Drawn → Drawn → Ready → Commit → Option VersionId → Outcome → List VersionId → List VersionId → List D → List D → Type 0
  FinishLeaves site drawn later ready deed put outcome trash_old trash_new mid new =
      (rule : List ℕ → Option ℕ) (longest : ℕ) (old disks disks_after : List D)
      → IsReady ghosts site drawn (name_of deed) rule longest ready old mid disks disks_after → length mid ≡ length old → FilesStay ghosts old mid
      → TellsStay ghosts old mid → CommitLeaves ghosts.tells ghosts.files site drawn later deed put outcome trash_old trash_new old new

  -- the calls of a section after its look: none where memory lacked, else those of a plan of the deed
  pub record FinishPlan (site : Site) (drawn later : Drawn) (ready : Ready) (deed : Commit) (put : Option VersionId) (now : ℕ) (outcome : Outcome) (old new : List D) : Type 0 where
    pub plan : Plan
    pub is : IsPlan site (drawn.seq + again_takes ready.first) ready deed put now plan
    pub calls : CallsCarry ghosts site drawn later ready.first plan outcome old new

  abbrev pub FinishCalls : Site → Drawn → Drawn → Ready → Commit → Option VersionId → ℕ → Outcome → List D → List D → Type 0
  FinishCalls site drawn later ready deed put now outcome old new = ((outcome ≡ LacksMemory) × (new ≡ old))
      ⊎ FinishPlan site drawn later ready deed put now outcome old new

  -- from which calls the answer of a commit comes that is asked so, by the deed that its entry tells
  abbrev pub AskCause : Ask → Drawn → Drawn → Commit → Result Committed SlotFault → Deed → List D → List D → List D → List D → Type 0
  AskCause ask drawn later deed answer entered old new disks disks_after = CommitCause ghosts (numbers_at ask.site drawn) (numbers_at ask.site later) deed
      ask.put ask.moment answer entered old new disks disks_after
