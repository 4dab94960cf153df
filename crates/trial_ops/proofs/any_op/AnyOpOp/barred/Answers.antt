use Rattle.std.proofs.Common.{subst, sym}
use Rattle.op_steps.specs.Words.{BarredSo}
use Rattle.trial_ops.specs.contracts.any_op.AnyOpOp.TheImpl.{stands-value, step-value}
use Rattle.trial_ops.specs.declared.any_op.AnyOp.{AnyOp}
use Rattle.trial_ops.specs.declared.any_op.AnyOp.TheVariants.{Deed}
use Rattle.trial_ops.proofs.any_op.AnyOpOp.barred.Goals as goal

pub returns-in-Deed-clause-barred : goal.returns-in-Deed-clause-barred
returns-in-Deed-clause-barred c =
    subst (λ (was : AnyOp). BarredSo (stands-value.it was) (stands-value.it (Deed c.barred-in-Deed.new.self)) (step-value.it was) c.args.why)
    (sym c.in-Deed.is) c.barred-in-Deed.ensures.barred
