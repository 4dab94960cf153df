use Rattle.std.proofs.Common.{subst, sym}
use Rattle.op_steps.specs.Words.{BarredSo}
use Rattle.receipts.specs.Registers.{bucket_slot}
use Rattle.bucket_ops.specs.Changes.{ChangeStands, step_of}
use Rattle.bucket_ops.proofs.ChangeStepLemmas.{barred_so}
use Rattle.bucket_ops.proofs.change.ChangeOpOp.barred.Goals as goal

pub returns-clause-barred : goal.returns-clause-barred
returns-clause-barred c =
    let op = c.args.self.now in
    subst (λ state. BarredSo (ChangeStands op.set op.sets_mode op.document op.bucket op.now (bucket_slot op.bucket) op.state)
    (ChangeStands op.set op.sets_mode op.document op.bucket op.now (bucket_slot op.bucket) state) (step_of op.state (bucket_slot op.bucket)) c.args.why)
    (sym c.barred_state.ensures) (barred_so op.set op.sets_mode op.document op.bucket op.now op.state c.args.why)
