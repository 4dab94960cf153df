-- What is planned of a deed before anything is written.
use Rattle.std.specs.Prelude.{◌≡◌, ℕ, [], Option, None, Some, IfSome}
use Rattle.call_types.specs.Refusals.{refusal_of}
use Rattle.call_types.specs.declared.act.Brief.TheVariants.{Answer}
use Rattle.call_types.specs.declared.reply.Reply.TheVariants.{Refused}
use Rattle.stamp_id.specs.declared.stamp.ChangeId.{ChangeId}
use Rattle.stamp_id.specs.declared.version.VersionId.{VersionId}
use Rattle.register_core.specs.Found.{content_of}
use Rattle.slot_rules.specs.Deeds.{call_of, name_of}
use Rattle.slot_rules.specs.Owning.{IsOwnOf}
use Rattle.slot_rules.specs.Planning.{DoesOver, IsGoneBy}
use Rattle.slot_rules.specs.declared.commit.Commit.{Commit}
use Rattle.slot_rules.specs.declared.ready.Ready.{Ready}
use Rattle.slot_rules.specs.declared.owning.Own.{Own}
use Rattle.slot_rules.specs.declared.plans.Plan.{Plan}
use Rattle.slot_rules.specs.declared.site.Site.{Site}
use Rattle.slot_rules.specs.declared.telling.Tale.{Tale}

-- what is told of a deed that drew this change: its call and its reply, twice
pub record IsTale (deed : Commit) (change : Option ChangeId) (now : ℕ) (tale : Tale) : Type 0 where
  pub audit : tale.audit ≡ record { call = call_of deed change now; reply = Answer tale.reply }
  pub stub : tale.stub ≡ tale.audit

-- a deed that leaves the content draws no change
pub record PlansNone (ready : Ready) (deed : Commit) (now : ℕ) (plan : Plan) : Type 0 where
  pub tale : IsTale deed None now plan.tale
  pub id : VersionId
  pub does : DoesOver (name_of deed) (content_of ready.looked.base ready.looked.pending) (call_of deed None now) id plan.tale.reply
      (content_of ready.looked.base ready.looked.pending)
  pub refused : IfSome plan.tale.refused (λ why. plan.tale.reply ≡ Refused (refusal_of why))
  pub gone : IsGoneBy deed (content_of ready.looked.base ready.looked.pending) (content_of ready.looked.base ready.looked.pending) []
  pub none : plan.gone.items ≡ []

-- another one has a change of its own
pub record PlansOwn (site : Site) (last : ℕ) (ready : Ready) (deed : Commit) (put : Option VersionId) (now : ℕ) (plan : Plan) (own : Own) : Type 0 where
  pub tale : IsTale deed (Some own.change) now plan.tale
  pub is : IsOwnOf site last ready deed put now plan.tale.reply own
  pub served : plan.tale.refused ≡ None
  pub gone : IsGoneBy deed (content_of ready.looked.base ready.looked.pending) is.next.content plan.gone.items

abbrev pub IsPlanBy : Option Own → Site → ℕ → Ready → Commit → Option VersionId → ℕ → Plan → Type 0
IsPlanBy None site last ready deed put now plan = PlansNone ready deed now plan
IsPlanBy (Some own) site last ready deed put now plan = PlansOwn site last ready deed put now plan own

-- what is planned of a deed, where so many numbers were drawn once what is pending is completed
abbrev pub IsPlan : Site → ℕ → Ready → Commit → Option VersionId → ℕ → Plan → Type 0
IsPlan site last ready deed put now plan = IsPlanBy plan.own site last ready deed put now plan
