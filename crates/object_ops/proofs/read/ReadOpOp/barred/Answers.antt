use Rattle.std.proofs.Common.{subst, sym}
use Rattle.op_steps.specs.Words.{BarredSo}
use Rattle.object_ops.specs.Read.{ReadStands, step_of}
use Rattle.object_ops.specs.ReadStands.{StandsFor, read_task}
use Rattle.object_ops.proofs.ReadLemmas.{barred_so}
use Rattle.object_ops.proofs.read.ReadOpOp.barred.Goals as goal

pub returns-clause-barred : goal.returns-clause-barred
returns-clause-barred c =
    let op = c.args.self.now in
    subst (λ state. BarredSo (StandsFor op) (ReadStands op.set (read_task op) op.at op.pick op.kind state op.pin op.reading) (step_of op.state op.at) c.args.why)
    (sym c.barred_after.ensures) (barred_so op.set op.at op.pick op.kind op.matches op.now op.state op.pin op.reading c.args.why)
