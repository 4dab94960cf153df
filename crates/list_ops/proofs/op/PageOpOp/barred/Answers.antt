use Rattle.std.proofs.Common.{subst, sym}
use Rattle.list_page.specs.Asks.{rule_of}
use Rattle.op_steps.specs.Words.{BarredSo}
use Rattle.list_ops.specs.Lists.{PageStands, page_step}
use Rattle.list_ops.specs.OpStands.{op_task}
use Rattle.list_ops.proofs.StepLemmas.{barred_so}
use Rattle.list_ops.proofs.op.PageOpOp.barred.Goals as goal

pub returns-clause-barred : goal.returns-clause-barred
returns-clause-barred c =
    let op = c.args.self.now in
    let rule = rule_of op.target.ask in
    let bucket = op.target.bucket in
    subst (λ state. BarredSo (PageStands op.set (op_task op) rule bucket op.state) (PageStands op.set (op_task op) rule bucket state) (page_step bucket op.state)
    c.args.why) (sym c.barred_page.ensures) (barred_so op.set (op_task op) rule bucket op.state c.args.why)
