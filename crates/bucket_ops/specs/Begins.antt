-- Ops that have done nothing yet.
use Rattle.std.specs.Prelude.{◌≡◌, ◌⊎◌, ℕ, true, false, Bool, List, [], vec_len}
use Rattle.drive_base.specs.declared.plan.SetPlan.{SetPlan}
use Rattle.bucket_ops.specs.Changes.{AfterDocument}
use Rattle.bucket_ops.specs.declared.change_op.ChangeOp.{ChangeOp}
use Rattle.bucket_ops.specs.declared.change_state.BucketDeed.{BucketDeed}
use Rattle.bucket_ops.specs.declared.change_state.ChangeState.TheVariants.{Committing, Reading}
use Rattle.bucket_ops.specs.declared.look_op.LookOp.{LookOp}
use Rattle.bucket_ops.specs.declared.state.State.TheVariants.{Looking}
use Rattle.slot_rules.specs.declared.commit.Commit.TheVariants.{MakeBucket}

-- an op of a look at this bucket, made in this second
pub record IsNew (set : SetPlan) (bucket : List ℕ) (asks : Bool) (now : ℕ) (op : LookOp) : Type 0 where
  pub set_is : op.set ≡ set
  pub bucket_is : op.bucket ≡ bucket
  pub asks_is : op.asks_mode ≡ asks
  pub now_is : op.now ≡ now
  pub state_is : op.state ≡ Looking

-- an op that makes this bucket
pub record IsNewMake (set : SetPlan) (bucket : List ℕ) (now : ℕ) (op : ChangeOp) : Type 0 where
  pub set_is : op.set ≡ set
  pub bucket_is : op.bucket ≡ bucket
  pub sets_is : op.sets_mode ≡ false
  pub long : vec_len op.document.bytes ≡ 0
  pub taken : op.document.taken ≡ 0
  pub now_is : op.now ≡ now
  pub state : (deed : BucketDeed) × (op.state ≡ Committing deed) × (deed.commit ≡ MakeBucket bucket)

-- how an op begins that sets a mode: it takes its document, or has decided where that has no byte
abbrev pub BeginsSetting : List ℕ → ChangeOp → Type 0
BeginsSetting bucket op = (op.state ≡ Reading) ⊎ ((vec_len op.document.bytes ≡ 0) × AfterDocument bucket [] op.state)

-- an op that sets the mode of this bucket, by a document of so many bytes
pub record IsNewSet (set : SetPlan) (bucket : List ℕ) (length now : ℕ) (op : ChangeOp) : Type 0 where
  pub set_is : op.set ≡ set
  pub bucket_is : op.bucket ≡ bucket
  pub sets_is : op.sets_mode ≡ true
  pub long : vec_len op.document.bytes ≡ length
  pub taken : op.document.taken ≡ 0
  pub now_is : op.now ≡ now
  pub begins : BeginsSetting bucket op
