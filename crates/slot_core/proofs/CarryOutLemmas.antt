-- What carrying out a plan tells, and from which calls its outcome comes.
use Rattle.std.proofs.Common.{◌≡◌, ◌≤◌, ◌+◌, ◌∙◌, ℕ, List, [], Option, None, Some, Result, Ok, Err, ap, subst, sym, refl, inl, inr, arith}
use Rattle.std.proofs.lemmas.List.{append-nil}
use Rattle.std.specs.Prelude.{◌++◌, ⊤, IfSome, MatchOption, string_bytes}
use Rattle.call_types.specs.Refusals.{refusal_of}
use Rattle.call_types.specs.declared.refusal.KeyRefusal.{KeyRefusal}
use Rattle.call_types.specs.declared.reply.Reply.{Reply}
use Rattle.call_types.specs.declared.reply.Reply.TheVariants.{Refused}
use Rattle.call_types.specs.declared.why.Why.{Why}
use Rattle.drive_base.specs.declared.drive.Drive.{Ghosts}
use Rattle.drive_base.specs.declared.plan.SetPlan.{SetPlan}
use Rattle.stamp_id.specs.declared.stamp.Ballot.{Ballot}
use Rattle.stamp_id.specs.declared.stamp.ChangeId.{ChangeId}
use Rattle.stamp_id.specs.declared.version.VersionId.{VersionId}
use Rattle.register_file.specs.declared.record.Next.{Next}
use Rattle.register_core.specs.Drafts.{IsDraftOf}
use Rattle.register_core.specs.Found.{content_of}
use Rattle.register_core.specs.declared.drafts.Draft.{Draft}
use Rattle.register_core.specs.declared.faults.QuorumFault.{QuorumFault}
use Rattle.register_core.specs.declared.faults.QuorumFault.TheVariants.{ReadQuorum, WriteQuorum, Undecided, NoMemory}
use Rattle.register_core.specs.declared.looks.Looked.{Looked}
use Rattle.register_caller.specs.Steps.{WritesBoth}
use Rattle.slot_rules.specs.Deeds.{name_of}
use Rattle.slot_rules.specs.Owning.{IsOwnDraft, IsOwnOf, again_takes, base_after}
use Rattle.slot_rules.specs.Plans.{IsPlan, IsPlanBy, IsTale, PlansNone, PlansOwn}
use Rattle.slot_rules.specs.declared.commit.Commit.{Commit}
use Rattle.slot_rules.specs.declared.commit.Committed.{Committed}
use Rattle.slot_rules.specs.declared.owning.Own.{Own}
use Rattle.slot_rules.specs.declared.plans.Plan.{Plan}
use Rattle.slot_rules.specs.declared.ready.Ready.{Ready}
use Rattle.slot_rules.specs.declared.site.Drawn.{Drawn}
use Rattle.slot_rules.specs.declared.site.Site.{Site}
use Rattle.slot_rules.specs.declared.telling.Tale.{Tale}
use Rattle.slot_core.specs.CommitOutcome.{CallsCarry, CallsOwnWrites, IsTold, IsToldDone, deed_told, entry_at, entry_told}
use Rattle.slot_core.specs.CommitWrite.{IsOwnOver, OwnFits, PlanFits}
use Rattle.slot_core.specs.Commits.{GoneByAnswer}
use Rattle.slot_core.specs.RegisterLook.{CallsForward}
use Rattle.slot_core.specs.Settlement.{FirstIs}
use Rattle.slot_core.specs.declared.commit_write.Outcome.{Outcome}
use Rattle.slot_core.specs.declared.commit_write.Outcome.TheVariants.{Begun, Done, Kept, LacksMemory}
use Rattle.slot_core.specs.declared.slot.SlotFault.{SlotFault}
use Rattle.slot_core.proofs.SettlingLemmas.{first_found}

-- ---- plans

pub plan_none : (site : Site) (last : ℕ) (ready : Ready) (deed : Commit) (put : Option VersionId) (now : ℕ) (plan : Plan) → plan.own ≡ None
    → IsPlan site last ready deed put now plan → PlansNone ready deed now plan
plan_none site last ready deed put now plan none is = subst (λ (o : Option Own). IsPlanBy o site last ready deed put now plan) none is

pub plan_own : (site : Site) (last : ℕ) (ready : Ready) (deed : Commit) (put : Option VersionId) (now : ℕ) (plan : Plan) (own : Own) → plan.own ≡ Some own
    → IsPlan site last ready deed put now plan → PlansOwn site last ready deed put now plan own
plan_own site last ready deed put now plan own some is = subst (λ (o : Option Own). IsPlanBy o site last ready deed put now plan) some is

-- what an own draft is of
draft_over : (looked : Looked) (first : Option Draft) (ballot : Ballot) (own : Next) (draft : Draft) → FirstIs looked looked.pending ballot first → IsOwnDraft looked first own draft
    → IsDraftOf draft (base_after looked.base first) own × (string_bytes draft.name ≡ string_bytes looked.name)
draft_over looked None ballot own draft is drafted = (drafted.«of», drafted.name)
draft_over looked (Some first) ballot own draft is drafted =
    let found = first_found looked looked.pending ballot (Some first) first is refl in
    (drafted.«of», drafted.name ∙ found.2.name)

-- an own change is one over what its section settled
pub own_over : (site : Site) (last : ℕ) (ready : Ready) (deed : Commit) (put : Option VersionId) (now : ℕ) (reply : Reply) (own : Own) (ballot : Ballot)
    → FirstIs ready.looked ready.looked.pending ballot ready.first → string_bytes ready.looked.name ≡ name_of deed
    → (is : IsOwnOf site last ready deed put now reply own)
    → IsOwnOver site last deed put now (base_after ready.looked.base ready.first) (content_of ready.looked.base ready.looked.pending) reply own is.next
own_over site last ready deed put now reply own ballot first named is =
    let over = draft_over ready.looked ready.first ballot is.next own.draft first is.drafted in
    record {
      «of» = over.0;
      name_is = over.1 ∙ named;
      parent = is.parent;
      change = is.change;
      change_is = is.change_is;
      term = is.term;
      seq = is.seq;
      seq_is = is.seq_is;
      adds = is.adds;
      id = is.id;
      id_change = is.id_change;
      id_slot = is.id_slot;
      does = is.does;
      changed = is.changed;
    }

-- ---- entries and tales

module _ {D : Type 0} (ghosts : Ghosts D) where
  -- the entry of own writes
  pub writes_entry : (site : Site) (drawn later : Drawn) (own : Own) (late : Option ChangeId) (tale : Tale) (outcome : Outcome) (old new : List D) (ticket : ℕ) (name : List ℕ)
      → CallsOwnWrites ghosts site drawn later own late tale outcome old new
      → Some (entry_at ticket name late (deed_told outcome)) ≡ entry_told ticket name outcome
  writes_entry site drawn later own late tale (Done told first) old new ticket name calls =
      ap (λ (l : Option ChangeId). Some (entry_at ticket name l (deed_told (Done told first)))) (sym calls.1)
  writes_entry site drawn later own late tale (Begun told change first fault) old new ticket name calls =
      ap (λ (l : Option ChangeId). Some (entry_at ticket name l (deed_told (Begun told change first fault)))) (sym calls.1)
  writes_entry site drawn later own late tale (Kept fault) old new ticket name calls = absurd calls
  writes_entry site drawn later own late tale LacksMemory old new ticket name calls = absurd calls

  -- own writes are refused with the letters of lanes
  pub writes_refused : (draft : Draft) (out term from to : ℕ) (fault : QuorumFault) (old new : List D) → WritesBoth ghosts draft out term from to (Err fault) old new
      → (whys : List Why) × (fault ≡ WriteQuorum whys)
  writes_refused draft out term from to (ReadQuorum whys) old new writes = absurd (elim writes [
    | inl proposes ↦ proposes
    | inr marks ↦ marks.marks
  ])
  writes_refused draft out term from to (WriteQuorum whys) old new writes = (whys, refl)
  writes_refused draft out term from to (Undecided k u whys) old new writes = absurd (elim writes [
    | inl proposes ↦ proposes
    | inr marks ↦ marks.marks
  ])
  writes_refused draft out term from to NoMemory old new writes = absurd (elim writes [
    | inl proposes ↦ proposes
    | inr marks ↦ marks.marks
  ])

  -- what own writes tell
  pub writes_told : (site : Site) (drawn later : Drawn) (own : Own) (late : Option ChangeId) (tale : Tale) (outcome : Outcome) (old new : List D) (deed : Commit) (now : ℕ)
      → IsTale deed (Some own.change) now tale → tale.refused ≡ None
      → CallsOwnWrites ghosts site drawn later own late tale outcome old new → IsTold deed now outcome
  writes_told site drawn later own late tale (Done told first) old new deed now is served calls = (
    Some own.change,
    subst (λ (t : Tale). IsTale deed (Some own.change) now t) (sym calls.0) is,
    subst (λ (o : Option KeyRefusal). MatchOption o ⊤ (λ why. (Some own.change ≡ None) × (told.reply ≡ Refused (refusal_of why))))
        (sym (ap (λ (t : Tale). t.refused) calls.0 ∙ served)) tt,
  )
  writes_told site drawn later own late tale (Begun told change first fault) old new deed now is served calls = (
    subst (λ (x : ChangeId). IsTale deed (Some x) now told) (sym calls.2) (subst (λ (t : Tale). IsTale deed (Some own.change) now t) (sym calls.0) is),
    writes_refused own.draft site.set.out site.term drawn.count later.count fault old new calls.3,
  )
  writes_told site drawn later own late tale (Kept fault) old new deed now is served calls = absurd calls
  writes_told site drawn later own late tale LacksMemory old new deed now is served calls = absurd calls

  -- the calls of a section with a change of its own
  pub writes_calls : (site : Site) (drawn middle later : Drawn) (first : Option Draft) (plan : Plan) (own : Own) (late : Option ChangeId) (outcome : Outcome)
      (old between new : List D) → plan.own ≡ Some own → later.seq ≡ own.seq → CallsForward ghosts site drawn middle first (Ok late) old between
      → CallsOwnWrites ghosts site middle later own late plan.tale outcome between new
      → CallsCarry ghosts site drawn later first plan outcome old new
  writes_calls site drawn middle later first plan own late (Done told begun) old between new some seq forward calls = (
    calls.0,
    inr (
      own,
      some,
      calls.2.0,
      record {
        seq = seq;
        between = between;
        middle = middle;
        forward = subst (λ (l : Option ChangeId). CallsForward ghosts site drawn middle first (Ok l) old between) (sym calls.1) forward;
        writes = calls.2.1;
      },
    ),
  )
  writes_calls site drawn middle later first plan own late (Begun told change begun fault) old between new some seq forward calls = (
    calls.0,
    (
      own,
      some,
      sym calls.2,
      record {
        seq = seq;
        between = between;
        middle = middle;
        forward = subst (λ (l : Option ChangeId). CallsForward ghosts site drawn middle first (Ok l) old between) (sym calls.1) forward;
        writes = calls.3;
      },
    ),
  )
  writes_calls site drawn middle later first plan own late (Kept fault) old between new some seq forward calls = absurd calls
  writes_calls site drawn middle later first plan own late LacksMemory old between new some seq forward calls = absurd calls

  -- so many numbers are drawn at most to complete what is pending
  pub mid_low : (site : Site) (drawn middle : Drawn) (first : Option Draft) (late : Option ChangeId) (old new : List D) → middle.seq ≤ drawn.seq + 1
      → CallsForward ghosts site drawn middle first (Ok late) old new → middle.seq ≤ drawn.seq + again_takes first
  mid_low site drawn middle (Some draft) late old new few calls = few
  mid_low site drawn middle None None old new few calls = let same = ap (λ (d : Drawn). d.seq) calls.2 in omega arith
  mid_low site drawn middle None (Some change) old new few calls = absurd (let clash : None ≡ Some calls.1.draft = calls.1.is in cc)

-- no change was drawn
abbrev no_change : Option ChangeId
no_change = None

-- a deed that leaves the content tells so
pub none_told : (ready : Ready) (deed : Commit) (now : ℕ) (plan : Plan) → PlansNone ready deed now plan → IsToldDone deed now plan.tale
none_told ready deed now plan is = (None, is.tale, by plan.tale.refused is.refused)
  where
    by : (o : Option KeyRefusal) → IfSome o (λ why. plan.tale.reply ≡ Refused (refusal_of why))
        → MatchOption o ⊤ (λ why. (no_change ≡ None) × (plan.tale.reply ≡ Refused (refusal_of why)))
    by None all = tt
    by (Some why) all = (refl, all)

-- nothing is gone
pub gone_none : (answer : Result Committed SlotFault) (trash : List VersionId) → (more : List VersionId) × (trash ≡ trash ++ more) × GoneByAnswer answer more
gone_none (Ok made) trash = ([], sym (append-nil trash), tt)
gone_none (Err fault) trash = ([], sym (append-nil trash), refl)

-- an own change of a plan that can be carried out can be written
pub plan_fits : (set : SetPlan) (seq : ℕ) (plan : Plan) (own : Own) → plan.own ≡ Some own → PlanFits set seq plan → OwnFits set seq own × (plan.tale.refused ≡ None)
plan_fits set seq plan own some fits =
    subst (λ (o : Option Own). MatchOption o (plan.gone.items ≡ []) (λ x. OwnFits set seq x × (plan.tale.refused ≡ None))) some fits
