use Rattle.std.proofs.Common.{subst, sym}
use Rattle.op_steps.specs.Words.{BarredSo}
use Rattle.bucket_ops.specs.Lists.{ListStands, list_step}
use Rattle.bucket_ops.proofs.ListStepLemmas.{barred_so}
use Rattle.bucket_ops.proofs.list.ListOpOp.barred.Goals as goal

pub returns-clause-barred : goal.returns-clause-barred
returns-clause-barred c =
    let op = c.args.self.now in
    subst (λ state. BarredSo (ListStands op.set op.now op.state) (ListStands op.set op.now state) (list_step op.state) c.args.why)
    (sym c.barred_list.ensures) (barred_so op.set op.now op.state c.args.why)
