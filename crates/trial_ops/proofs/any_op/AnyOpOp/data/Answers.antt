use Rattle.std.proofs.Common.{◌≡◌, ◌<◌, subst, sym}
use Rattle.drive_base.specs.View.{views}
use Rattle.op_steps.specs.Words.{CallsSo}
use Rattle.op_steps.specs.declared.next.OpNext.TheVariants.{Data}
use Rattle.trial_ops.specs.contracts.any_op.AnyOpOp.TheImpl.{left-value, set-value, stands-value, step-value}
use Rattle.trial_ops.specs.declared.any_op.AnyOp.{AnyOp}
use Rattle.trial_ops.specs.declared.any_op.AnyOp.TheVariants.{Deed}
use Rattle.trial_ops.proofs.any_op.AnyOpOp.data.Goals as goal

pub returns-in-Deed-clause-left : goal.returns-in-Deed-clause-left
returns-in-Deed-clause-left g c =
    subst (λ (was : AnyOp). step-value.it was ≡ Data → left-value.it (Deed c.data-in-Deed.new.self) < left-value.it was) (sym c.in-Deed.is)
    c.data-in-Deed.ensures.left

pub returns-in-Deed-clause-calls : goal.returns-in-Deed-clause-calls
returns-in-Deed-clause-calls g c =
    subst (λ (was : AnyOp). step-value.it was ≡ Data → CallsSo (stands-value.it was) (stands-value.it (Deed c.data-in-Deed.new.self)) (set-value.it was)
    (views g.D.Drive c.args.disks.now) (views g.D.Drive c.data-in-Deed.new.disks)) (sym c.in-Deed.is) c.data-in-Deed.ensures.calls
