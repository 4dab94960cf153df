-- How a call is served by its op.
use Rattle.std.specs.Prelude.{◌≡◌, ◌<◌, ℕ, List, [], ◌∷◌, Option, Some, None, Result, Ok, Err}
use Rattle.call_types.specs.declared.feed.Cut.{Cut}
use Rattle.call_types.specs.declared.feed.Feed.{Ghosts as FeedGhosts}
use Rattle.desk_base.specs.Answering.{Task}
use Rattle.desk_base.specs.Telling.{Telling}
use Rattle.desk_base.specs.declared.teller.Teller.{Ghosts as TellerGhosts}
use Rattle.drive_base.specs.View.{views}
use Rattle.drive_base.specs.declared.drive.Drive.{Ghosts}
use Rattle.drive_base.specs.declared.plan.SetPlan.{SetPlan}
use Rattle.receipts.specs.Events.{Log, body_of, notes_of, tried_of}
use Rattle.receipts.specs.Events.Event.{Told}
use Rattle.receipts.specs.Paying.{Pays}
use Rattle.op_steps.specs.Claims.{Claim, no_claim}
use Rattle.op_steps.specs.Going.{OpLed}
use Rattle.op_steps.specs.Moves.{TellMoves}
use Rattle.op_steps.specs.Store.{FeedSeen, StoreOver, any_effect, store_of, teller_of}
use Rattle.op_steps.specs.Words.{LetsGo}
use Rattle.op_steps.specs.declared.run.Served.{Served}
use Rattle.store_shared.specs.Answers.{NotesAre, any_teller, cut_by}
use Rattle.store_shared.specs.declared.op_desk.Receipt.{Receipt}

-- a receipt has the stubs of a call that was served whole
abbrev pub IsReceiptOf : Served → Result Receipt Cut → Type 0
IsReceiptOf served (Ok receipt) = (served.cut ≡ None) × (receipt.stubs.items ≡ served.stubs.items)
IsReceiptOf served (Err why) = served.cut ≡ Some why

-- the op of a call was done, of which nothing was held before, and its stubs and why it was cut were given. Where its log leads is said by those whose steps
-- it has
abbrev pub WasServed : SetPlan → Task → Served → ℕ → (Log → Claim → Claim → Type 0) → Type 0
WasServed set task served slot Leads = OpLed (Pays set task served.cut) served.stubs.items slot Leads

-- a call was served so, and its notes are the receipt's
pub record IsDone (set : SetPlan) (task : Task) (result : Result Receipt Cut) (Leads : Log → Claim → Claim → Type 0) : Type 0 where
  pub slot : ℕ
  pub in_store : slot < 64
  pub left : Claim
  pub log : Log
  pub lets_go : LetsGo left log
  pub pays : Pays set task (cut_by result) log
  pub ran : Leads log (no_claim slot) left
  pub notes : NotesAre result log

-- a log has tellings alone, over which the faults of the sink went so
abbrev pub OnlyTold : Log → ℕ → ℕ → Type 0
OnlyTold [] old new = new ≡ old
OnlyTold (Told telling cut ∷ log) old new = (mid : ℕ) × TellMoves any_effect any_effect telling cut (any_teller old) (any_teller mid) × OnlyTold log mid new
OnlyTold (other ∷ log) old new = ⊥

-- a call was served by tellings alone
pub record IsToldAlone (set : SetPlan) (task : Task) (result : Result Receipt Cut) (log : Log) : Type 0 where
  pub feed : FeedSeen
  pub faults : ℕ
  pub faults_after : ℕ
  pub told : OnlyTold log faults faults_after
  pub pays : Pays set task (cut_by result) log
  pub notes : NotesAre result log

-- so a desk may answer, whose pass stays
abbrev pub AnswersAlone : {P : Type 0} → (P → SetPlan) → (Task → P → P → List ℕ → List Telling → Result Receipt Cut → Type 0) → Type 0
AnswersAlone {P} set_of Answers = (task : Task) (pass : P) (result : Result Receipt Cut) (log : Log) → IsToldAlone (set_of pass) task result log
    → Answers task pass pass (body_of log) (tried_of log) result

-- the store that an op works on which claims this: what its desk reaches the slots by, its data drives, its feed and its teller
abbrev pub reached : {S D F T : Type 0} → Ghosts D → FeedGhosts F → TellerGhosts T → S → List D → F → T → Claim → StoreOver S T
reached drives feeds tellers slots disks feed teller claim =
    store_of slots (views drives disks) claim (record { view = feeds.seen feed; faults = feeds.faults feed }) (teller_of teller (tellers.faults teller))
