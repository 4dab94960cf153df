-- What a PutObject has once its state was taken out of it.
use Rattle.std.proofs.Common.{◌≡◌, ◌≤◌, ℕ, refl, sym, subst, subst₂}
use Rattle.call_types.specs.declared.feed.Cut.{Cut}
use Rattle.call_types.specs.declared.names.Key.{Key}
use Rattle.std.specs.Prelude.{Option}
use Rattle.put_stage.specs.declared.stage.StageNext.{StageNext}
use Rattle.put_stage.specs.declared.stage.StageNext.TheVariants.{Fill, Finish, Step}
use Rattle.receipts.specs.Registers.{key_slot}
use Rattle.op_steps.specs.declared.next.OpNext.TheVariants as next
use Rattle.object_ops.specs.Put.{left_at, long_by, reach_by, step_at, work_step}
use Rattle.op_steps.specs.Store.{FeedSeen}
use Rattle.receipts.specs.declared.barred.Barred.{Barred}
use Rattle.object_ops.specs.PutStageCalls.{FeedsTo}
use Rattle.object_ops.specs.PutOutcome.{BarredAfter}
use Rattle.object_ops.specs.PutStands.{IsSamePut, PutStandsAt, ask_of}
use Rattle.object_ops.specs.declared.put_stage_calls.PutFed.{PutFed}
use Rattle.object_ops.specs.declared.clearing.Clearing.{Clearing}
use Rattle.object_ops.specs.declared.put_op.PutOp.{PutOp}
use Rattle.object_ops.specs.declared.put_state.PutState.{PutState}
use Rattle.object_ops.specs.declared.put_state.PutState.TheVariants as state
use Rattle.object_ops.specs.declared.put_state.Work.{Work}
use Rattle.object_ops.proofs.LeftLemmas.{is_data}
use Rattle.object_ops.proofs.PutOpLemmas.{same_ask}

module _ (op out : PutOp) (taken : PutState) (is : taken ≡ op.state) (same : IsSamePut op out) (same_read : out.read ≡ op.read) where
  pub counted_on : long_by out.long out.read taken ≡ out.long
  counted_on = subst (λ (s : PutState). long_by out.long out.read s ≡ out.long) (sym is)
      (subst₂ (λ l r. long_by l r op.state ≡ l) (sym same.long) (sym same_read) op.counted)

  pub reached_on : reach_by out.read taken ≤ out.long
  reached_on = subst (λ (s : PutState). reach_by out.read s ≤ out.long) (sym is)
      (subst₂ (λ l r. reach_by r op.state ≤ l) (sym same.long) (sym same_read) op.reached)

-- an op that stands for this stands for it as it is now
pub stands_now : (op out : PutOp) (read : ℕ) (s : PutState) → IsSamePut op out → (same : out.clearing ≡ op.clearing)
    → PutStandsAt (ask_of op) read op.clearing s ≡ PutStandsAt (ask_of out) read out.clearing s
stands_now op out read s same same_clearing = λ i. PutStandsAt (sym (same_ask op out same) i) read (sym same_clearing i) s

pub left_now : (op out : PutOp) (read : ℕ) (s : PutState) → IsSamePut op out → (same : out.clearing ≡ op.clearing)
    → left_at out.set out.long read out.clearing s ≡ left_at op.set op.long read op.clearing s
left_now op out read s same same_clearing = λ i. left_at (same.set i) (same.long i) read (same_clearing i) s

-- a call of a drive comes next for a stage, where the reply isn't told yet
data_next : (index : ℕ) (n : StageNext) → work_step index n ≡ next.Data → n ≡ Step
data_next index Fill is = absurd (subst is_data (sym is) tt)
data_next index Step is = refl
data_next index Finish is = absurd (subst is_data (sym is) tt)

pub data_work : (at : Key) (clearing : Clearing) (one : PutState) → step_at at clearing one ≡ next.Data → ((why : Option Cut) → one ≡ state.Told why → ⊥)
    → (work : Work) × (one ≡ state.Staging work) × (work.next ≡ Step)
data_work at clearing state.Looking step untold = absurd (subst is_data (sym step) tt)
data_work at clearing (state.Beginning mode) step untold = absurd (subst is_data (sym step) tt)
data_work at clearing (state.Staging work) step untold = (work, refl, data_next (key_slot at) work.next step)
data_work at clearing (state.Dropping flight why) step untold = absurd (subst is_data (sym step) tt)
data_work at clearing (state.Draining told) step untold = absurd (subst is_data (sym step) tt)
data_work at clearing (state.Telling told) step untold = absurd (subst is_data (sym step) tt)
data_work at clearing (state.Told why) step untold = absurd (untold why refl)

-- what was taken of the body is said of the op
pub feeds_on : (op out : PutOp) (taken : PutState) (fed : PutFed) (old new : FeedSeen) → taken ≡ op.state → IsSamePut op out → out.read ≡ op.read
    → FeedsTo taken out.read out.long fed old new → FeedsTo op.state op.read op.long fed old new
feeds_on op out taken fed old new is same same_read feeds =
    subst (λ (s : PutState). FeedsTo s op.read op.long fed old new) is (subst₂ (λ r l. FeedsTo taken r l fed old new) same_read same.long feeds)

pub stands_same : (op out : PutOp) (s : PutState) → IsSamePut op out → out.read ≡ op.read → out.clearing ≡ op.clearing
    → PutStandsAt (ask_of op) op.read op.clearing s ≡ PutStandsAt (ask_of out) out.read out.clearing s
stands_same op out s same same_read same_clearing = λ i. PutStandsAt (sym (same_ask op out same) i) (sym same_read i) (sym same_clearing i) s

pub left_same : (op out : PutOp) (s : PutState) → IsSamePut op out → out.read ≡ op.read → out.clearing ≡ op.clearing
    → left_at out.set out.long out.read out.clearing s ≡ left_at op.set op.long op.read op.clearing s
left_same op out s same same_read same_clearing = λ i. left_at (same.set i) (same.long i) (same_read i) (same_clearing i) s

-- what a bar leads to is said of the op
pub bars_on : (op out : PutOp) (taken later : PutState) (why : Barred) → taken ≡ op.state → IsSamePut op out → out.read ≡ op.read
    → BarredAfter taken why out.read out.long later → BarredAfter op.state why op.read op.long later
bars_on op out taken later why is same same_read after =
    subst (λ (s : PutState). BarredAfter s why op.read op.long later) is (subst₂ (λ r l. BarredAfter taken why r l later) same_read same.long after)
