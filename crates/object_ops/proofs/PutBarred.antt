-- A section of a PutObject that can't be done.
use Rattle.std.proofs.Common.{◌≡◌, ◌⊎◌, ◌∙◌, ◌<◌, ◌+◌, ◌*◌, ◌==◌, ℕ, Bool, true, false, List, Option, cond, length, inl, inr, refl, sym, ap, subst, arith}
use Rattle.call_types.specs.declared.feed.Cut.{Cut}
use Rattle.call_types.specs.declared.names.Mode.{Mode}
use Rattle.drive_base.specs.declared.plan.SetPlan.{SetPlan}
use Rattle.put_stage.specs.declared.stage.StageNext.TheVariants.{Finish}
use Rattle.receipts.specs.declared.barred.Barred.{Barred}
use Rattle.op_steps.specs.Words.{BarredSo, IsSection}
use Rattle.op_steps.specs.declared.next.OpNext.TheVariants as next
use Rattle.object_ops.specs.Clearing.{files_left, left_of as left_to_clear, next_of, files_of}
use Rattle.object_ops.specs.Put.{left_at}
use Rattle.object_ops.specs.PutStands.{PutStands, PutStandsAt, ask_of, step_of}
use Rattle.object_ops.specs.PutOutcome.{BarredAfter}
use Rattle.object_ops.specs.PutTarget.{key_of}
use Rattle.object_ops.specs.declared.clearing.Clearing.{Clearing}
use Rattle.object_ops.specs.declared.put_op.PutOp.{PutOp}
use Rattle.object_ops.specs.declared.put_state.PutState.{PutState}
use Rattle.object_ops.specs.declared.put_state.PutState.TheVariants as state
use Rattle.object_ops.specs.declared.put_state.Work.{Work}
use Rattle.object_ops.specs.declared.data_files.Removal.{Removal}
use Rattle.object_ops.proofs.PutBars.{barred_so}
use Rattle.object_ops.proofs.PutLefts.{all_read, barred_left, none_read, none_read_yet}
use Rattle.object_ops.proofs.PutNext.{may_finish}

-- trash is taken where a section comes next
taking : (index : ℕ) (takes empty : Bool) → IsSection (cond takes (next.Section index) (cond empty next.Done next.Data)) → takes ≡ true
taking index true empty section = refl
taking index false true section = absurd section
taking index false false section = absurd section

pub takes_of : (index : ℕ) (clearing : Clearing) → IsSection (next_of index clearing) → clearing.takes ≡ true
takes_of index clearing section = taking index clearing.takes (length (files_left clearing) == 0) section

-- less is left where no trash is taken
pub pass_left : (set : SetPlan) (long read : ℕ) (clearing passed : Clearing) (one : PutState) (why : Option Cut) → one ≡ state.Told why → clearing.takes ≡ true
    → passed.takes ≡ false → passed.queue.items ≡ clearing.queue.items → left_at set long read passed one < left_at set long read clearing one
pass_left set long read clearing passed one why is took passes same =
    let new : left_to_clear set passed ≡ 0 + length (files_left clearing) =
    ap (λ b. cond b (32 * set.drives + 1) 0 + length (files_left passed)) passes ∙ ap (λ (q : List Removal). 0 + length (files_of q)) same in
    let old : left_to_clear set clearing ≡ 32 * set.drives + 1 + length (files_left clearing) =
    ap (λ b. cond b (32 * set.drives + 1) 0 + length (files_left clearing)) took in
    subst (λ (s : PutState). left_at set long read passed s < left_at set long read clearing s) (sym is) (omega (arith, new, old))

module _ (op : PutOp) (later : PutState) (why : Barred) (untold : (cut : Option Cut) → op.state ≡ state.Told cut → ⊥) (after : BarredAfter op.state why op.read op.long later) where
  whole : (work : Work) → op.state ≡ state.Staging work → work.next ≡ Finish → (op.read ≡ op.long) × (work.stage.load.left ≡ 0)
  whole work is ends =
      let may = may_finish work.stage work.next work.is_next ends in
      (all_read op.long op.read op.state work is op.counted may.whole, may.whole)

  unread : (mode : Mode) → (op.state ≡ state.Looking) ⊎ (op.state ≡ state.Beginning mode) → op.read ≡ 0
  unread mode (inl is) = none_read op.long op.read op.state is op.counted
  unread mode (inr is) = none_read_yet op.long op.read op.state mode is op.counted

  pub bars_so : BarredSo (PutStands op) (PutStandsAt (ask_of op) op.read op.clearing later) (step_of op) why
  bars_so = barred_so (ask_of op) op.read op.clearing op.state later why untold unread whole after

  pub bars_left : IsSection (step_of op) → left_at op.set op.long op.read op.clearing later < left_at op.set op.long op.read op.clearing op.state
  bars_left section = barred_left op.set (key_of op.target) op.long op.read op.clearing op.state later why untold (λ work is ends. (whole work is ends).0) section after
