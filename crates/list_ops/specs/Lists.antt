-- What the log of a listing has, by how far it is.
use Rattle.std.specs.Prelude.{◌≡◌, ◌⊎◌, ℕ, List, [], Option, None}
use Rattle.call_types.specs.declared.feed.Cut.{Cut}
use Rattle.desk_base.specs.Answering.{Task}
use Rattle.desk_base.specs.declared.asks.ListAsk.{ListAsk}
use Rattle.desk_base.specs.declared.asks.VersionsAsk.{VersionsAsk}
use Rattle.desk_base.specs.declared.call.Call.TheVariants.{List2, ListVersions}
use Rattle.drive_base.specs.declared.plan.SetPlan.{SetPlan}
use Rattle.receipts.specs.Events.{Log, Section as SectionSeen}
use Rattle.receipts.specs.Listing.{key_in}
use Rattle.receipts.specs.Pages.{PageRule, keys_rule, versions_rule}
use Rattle.receipts.specs.Paying.{Pays}
use Rattle.receipts.specs.Registers.{bucket_slot, key_slot}
use Rattle.op_steps.specs.Claims.{Claim, no_claim}
use Rattle.op_steps.specs.Ready.{IsReady}
use Rattle.op_steps.specs.declared.next.OpNext.{OpNext}
use Rattle.op_steps.specs.declared.next.OpNext.TheVariants.{Done, Section, Tell}
use Rattle.list_ops.specs.Rounds.{HasBucket, IsAtKey, IsAtSlot}
use Rattle.list_ops.specs.Sheets.{Sheet, sheet_of}
use Rattle.list_ops.specs.declared.page_state.PageState.{PageState}
use Rattle.list_ops.specs.declared.page_state.PageState.TheVariants.{Asking, Looking, Over, Telling, Viewing}
use Rattle.list_ops.specs.declared.page_state.Wanted.{Wanted}

-- a task is that of a listing of a bucket by a rule
abbrev pub IsPageTask : Task → PageRule → List ℕ → Type 0
IsPageTask task rule bucket = ((ask : ListAsk) × (task.call ≡ List2 bucket ask) × (rule ≡ keys_rule ask))
    ⊎ ((ask : VersionsAsk) × (task.call ≡ ListVersions bucket ask) × (rule ≡ versions_rule ask))

-- what comes next, and why it was cut
abbrev pub page_step : List ℕ → PageState → OpNext
page_step bucket Looking = Section (bucket_slot bucket)
page_step bucket (Asking work) = Section work.slot
page_step bucket (Viewing work wanted) = Section wanted.slot
page_step bucket (Telling reply) = Tell
page_step bucket (Over cut) = Done

abbrev pub page_cut : PageState → Option Cut
page_cut Looking = None
page_cut (Asking work) = None
page_cut (Viewing work wanted) = None
page_cut (Telling reply) = None
page_cut (Over cut) = cut

-- a listing that looks at this key next
pub record IsAtView (rule : PageRule) (bucket : List ℕ) (sheet : Sheet) (wanted : Wanted) (sections : List SectionSeen) : Type 0 where
  pub at : IsAtKey rule bucket sheet wanted.at.key sections
  pub at_is : wanted.at ≡ key_in bucket wanted.at.key
  pub slot_is : wanted.slot ≡ key_slot wanted.at

-- behind the look that found the bucket there are sections of which this holds
abbrev pub HasBehind : (bucket : List ℕ) → (List SectionSeen → Type 0) → Log → Type 0
HasBehind bucket Holds log = (rest : List SectionSeen) × HasBucket bucket rest log × Holds rest

-- the log of an op so far
abbrev pub HasPaged : SetPlan → Task → PageRule → List ℕ → PageState → Log → Type 0
HasPaged set task rule bucket Looking log = log ≡ []
HasPaged set task rule bucket (Asking work) log = HasBehind bucket (IsAtSlot rule bucket (sheet_of work)) log
HasPaged set task rule bucket (Viewing work wanted) log = HasBehind bucket (IsAtView rule bucket (sheet_of work) wanted) log
HasPaged set task rule bucket (Telling reply) log = IsReady set task reply log
HasPaged set task rule bucket (Over cut) log = Pays set task cut log

-- it holds nothing of a slot
pub record PageStands (set : SetPlan) (task : Task) (rule : PageRule) (bucket : List ℕ) (state : PageState) (claim : Claim) (log : Log) : Type 0 where
  pub none : claim ≡ no_claim claim.slot
  pub is_page : IsPageTask task rule bucket
  pub paged : HasPaged set task rule bucket state log
