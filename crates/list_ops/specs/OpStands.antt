-- What the op of a listing stands for.
use Rattle.std.specs.Prelude.{◌≡◌, ℕ, List}
use Rattle.bucket_book.specs.Name.{IsBucketName}
use Rattle.desk_base.specs.Answering.{Task}
use Rattle.desk_base.specs.Calls.{IsListAsk, IsVersionsAsk}
use Rattle.desk_base.specs.declared.call.Call.{Call}
use Rattle.desk_base.specs.declared.call.Call.TheVariants.{List2, ListVersions}
use Rattle.drive_base.specs.declared.plan.SetPlan.{SetPlan}
use Rattle.list_page.specs.Asks.{rule_of}
use Rattle.receipts.specs.Events.{Log}
use Rattle.receipts.specs.Pages.{PageRule, keys_rule, versions_rule}
use Rattle.op_steps.specs.Claims.{Claim}
use Rattle.list_ops.specs.Lists.{PageStands}
use Rattle.list_ops.specs.declared.asked.Asked.{Asked}
use Rattle.list_ops.specs.declared.asked.Asked.TheVariants.{Keys, Versions}
use Rattle.list_ops.specs.declared.page_op.PageOp.{PageOp}
use Rattle.list_ops.specs.declared.page_state.PageState.TheVariants.{Looking}

-- a call lists a bucket
abbrev pub IsListing : Call → Type 0
IsListing (List2 bucket page) = IsBucketName bucket × IsListAsk page
IsListing (ListVersions bucket page) = IsBucketName bucket × IsVersionsAsk page
IsListing other = ⊥

-- the call of what is asked, and its rule
abbrev pub asked_call : List ℕ → Asked → Call
asked_call bucket (Keys ask) = List2 bucket ask
asked_call bucket (Versions ask) = ListVersions bucket ask

abbrev pub asked_rule : Asked → PageRule
asked_rule (Keys ask) = keys_rule ask
asked_rule (Versions ask) = versions_rule ask

-- the task of an op
abbrev pub op_task : PageOp → Task
op_task op = record { call = asked_call op.target.bucket op.asked; now = op.now }

-- its claim and its log
abbrev pub StandsFor : PageOp → Claim → Log → Type 0
StandsFor op claim log = PageStands op.set (op_task op) (rule_of op.target.ask) op.target.bucket op.state claim log

-- an op of a call that lists a bucket, which has done nothing yet
pub record IsNewPage (set : SetPlan) (call : Call) (now : ℕ) (op : PageOp) : Type 0 where
  pub set_is : op.set ≡ set
  pub call_is : asked_call op.target.bucket op.asked ≡ call
  pub now_is : op.now ≡ now
  pub rule_is : rule_of op.target.ask ≡ asked_rule op.asked
  pub state_is : op.state ≡ Looking
