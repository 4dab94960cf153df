-- What carrying out a plan leaves.
use Rattle.std.specs.Prelude.{◌≡◌, ◌≢◌, ℕ, ◌+◌, ◌≤◌, Bool, List, [], length, Option, None, Some, MatchOption, string_bytes}
use Rattle.call_types.specs.declared.reply.Reply.{Reply}
use Rattle.drive_base.specs.declared.drive.Drive.{Ghosts}
use Rattle.drive_base.specs.Files.{Files}
use Rattle.drive_base.specs.declared.plan.SetPlan.{SetPlan}
use Rattle.stamp_id.specs.declared.stamp.ChangeId.{ChangeId}
use Rattle.stamp_id.specs.declared.version.VersionId.{VersionId}
use Rattle.register_file.specs.declared.record.Base.{Base}
use Rattle.register_file.specs.declared.record.Next.{Next}
use Rattle.register_core.specs.Drafts.{IsDraftOf}
use Rattle.slot_history.specs.Standing.{Flying, Records}
use Rattle.slot_history.specs.State.{IsHeld, State}
use Rattle.slot_data.specs.Holding.{Holding}
use Rattle.slot_rules.specs.Deeds.{call_of, name_of}
use Rattle.slot_rules.specs.Owning.{IsOwnChange, again_takes, life_at, own_seq}
use Rattle.slot_rules.specs.Planning.{DoesOver, IsGoneBy, adds_of}
use Rattle.slot_rules.specs.Plans.{IsPlan, IsTale}
use Rattle.slot_rules.specs.declared.commit.Commit.{Commit}
use Rattle.slot_rules.specs.declared.owning.Own.{Own}
use Rattle.slot_rules.specs.declared.plans.Plan.{Plan}
use Rattle.slot_rules.specs.declared.ready.Ready.{Ready}
use Rattle.slot_rules.specs.declared.site.Drawn.{Drawn}
use Rattle.slot_rules.specs.declared.site.Site.{Site}
use Rattle.slot_rules.specs.declared.telling.Tale.{Tale}
use Rattle.slot_core.specs.CommitOutcome.{DeedLeaves, EntryLeaves, FitsPut, IsTold, Lands, answer_told, deed_told, entry_told, kept_with}
use Rattle.slot_core.specs.Commits.{MayCommitData, ShowsTrash}
use Rattle.slot_core.specs.RegisterLook.{DraftFits}
use Rattle.slot_core.specs.Settlement.{IsReady, SettledOn, numbers_at}
use Rattle.slot_core.specs.Standing.{SlotStands}
use Rattle.slot_core.specs.declared.commit_write.Outcome.{Outcome}
use Rattle.slot_core.specs.LanesStay.{FilesStay, TellsStay}

-- an own change can be written: its draft fits the set, and its ballot is one of the next three numbers
pub record OwnFits (set : SetPlan) (seq : ℕ) (own : Own) : Type 0 where
  pub draft : DraftFits set own.draft
  pub rises : seq ≤ own.seq
  pub few : own.seq ≤ seq + 3

-- a plan can be carried out
abbrev pub PlanFits : SetPlan → ℕ → Plan → Type 0
PlanFits set seq plan = MatchOption plan.own (plan.gone.items ≡ []) (λ own. OwnFits set seq own × (plan.tale.refused ≡ None))

-- the own change of a deed, drafted over a base with this content, where at most so many numbers were drawn
pub record IsOwnOver (site : Site) (last : ℕ) (deed : Commit) (put : Option VersionId) (now : ℕ) (base : Base) (content : List ℕ) (reply : Reply) (own : Own)
    (next : Next) : Type 0 where
  pub «of» : IsDraftOf own.draft base next
  pub name_is : string_bytes own.draft.name ≡ name_of deed
  pub parent : next.parent ≡ base.change
  pub change : IsOwnChange (life_at site) last put next.change
  pub change_is : own.change ≡ next.change
  pub term : next.ballot.term ≡ site.term
  pub seq : next.ballot.seq ≡ own_seq last put
  pub seq_is : own.seq ≡ own_seq last put
  pub adds : next.adds ≡ adds_of deed
  pub id : VersionId
  pub id_change : id.change ≡ next.change
  pub id_slot : id.slot ≡ site.index
  pub does : DoesOver (name_of deed) content (call_of deed (Some next.change) now) id reply next.content
  pub changed : next.content ≢ content

-- what a section that carries out a plan tells is true of the deed
abbrev pub TellsAfter : Site → Drawn → Ready → Plan → Outcome → Type 0
TellsAfter site drawn ready plan outcome = (deed : Commit) (put : Option VersionId) (now : ℕ)
    → IsPlan site (drawn.seq + again_takes ready.first) ready deed put now plan → IsTold deed now outcome

module _ {D : Type 0} (tells : D → Bool) (files : D → Files) where
  -- what the writes of an own change leave, over every state for which the lanes stood when its register was settled
  abbrev pub WritesOwnOver : Site → Drawn → Drawn → Own → Tale → Option ChangeId → List VersionId → Outcome → List VersionId → List VersionId
      → List D → List D → Type 0
  WritesOwnOver site drawn later own tale late gone outcome trash_old trash_new old new =
      (deed : Commit) (put : Option VersionId) (now last : ℕ) (base : Base) (content : List ℕ) (next : Next) (holding : Holding) (rest : List Flying)
      (records : Records) (state : State)
      → drawn.seq ≤ last → IsTale deed (Some own.change) now tale
      → IsOwnOver site last deed put now base content tale.reply own next → IsGoneBy deed content next.content gone
      → SlotStands tells files (numbers_at site drawn) holding.flights old records state → SettledOn (name_of deed) base content late records state
      → Lands put holding.flights rest → FitsPut deed put → holding.trash ≡ trash_old
      → DeedLeaves tells files (numbers_at site drawn) (numbers_at site later) holding (kept_with holding rest trash_new) (name_of deed) (deed_told outcome) new
      (λ before after. ShowsTrash deed (answer_told outcome) trash_old trash_new before after)
      (λ disks hands less. MayCommitData deed (kept_with holding rest trash_new) disks hands less) records state

module _ {D : Type 0} (ghosts : Ghosts D) where
  -- what a section leaves that carries out a plan, over every state for which the lanes stood when they were looked at
  abbrev pub CarriesAfter : Site → Drawn → Drawn → List ℕ → Ready → Plan → Outcome → List VersionId → List VersionId → List D → List D → Type 0
  CarriesAfter site drawn later name ready plan outcome trash_old trash_new mid new =
      (deed : Commit) (put : Option VersionId) (now : ℕ) (rule : List ℕ → Option ℕ) (longest : ℕ) (old disks disks_after : List D) (holding : Holding)
      (rest : List Flying) (records : Records) (state : State)
      → IsPlan site (drawn.seq + again_takes ready.first) ready deed put now plan → name_of deed ≡ name
      → IsReady ghosts site drawn (name_of deed) rule longest ready old mid disks disks_after → length mid ≡ length old → FilesStay ghosts old mid
      → TellsStay ghosts old mid → IsHeld state.registers (name_of deed)
      → SlotStands ghosts.tells ghosts.files (numbers_at site drawn) holding.flights old records state → Lands put holding.flights rest → FitsPut deed put
      → holding.trash ≡ trash_old
      → EntryLeaves ghosts.tells ghosts.files (numbers_at site drawn) (numbers_at site later) holding (kept_with holding rest trash_new) new
      (entry_told site.turns (name_of deed) outcome) (λ before after. ShowsTrash deed (answer_told outcome) trash_old trash_new before after)
      (λ disks hands less. MayCommitData deed (kept_with holding rest trash_new) disks hands less) records state
