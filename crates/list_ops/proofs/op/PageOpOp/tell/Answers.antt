use Rattle.std.proofs.Common.{subst, sym}
use Rattle.list_page.specs.Asks.{rule_of}
use Rattle.op_steps.specs.Store.{teller_of}
use Rattle.op_steps.specs.Words.{TellsSo}
use Rattle.list_ops.specs.Lists.{PageStands}
use Rattle.list_ops.specs.OpStands.{op_task}
use Rattle.list_ops.specs.declared.page_state.PageState.TheVariants.{Over}
use Rattle.list_ops.proofs.StepLemmas.{tell_so}
use Rattle.list_ops.proofs.op.PageOpOp.tell.Goals as goal

pub returns-in-Telling-clause-tells : goal.returns-in-Telling-clause-tells
returns-in-Telling-clause-tells g c =
    let op = c.args.self.now in
    let T = g.T.Teller in
    let cut = c.tell_head-cut.result in
    let rule = rule_of op.target.ask in
    let bucket = op.target.bucket in
    subst (λ state. TellsSo T.takes T.breaks (PageStands op.set (op_task op) rule bucket state) (PageStands op.set (op_task op) rule bucket (Over cut))
    (teller_of c.args.teller.now (T.faults c.args.teller.now)) (teller_of c.tell_head-cut.new.teller (T.faults c.tell_head-cut.new.teller)))
    (sym c.in-Telling.is) (tell_so op.set (op_task op) rule bucket T.takes T.breaks c.in-Telling.reply cut _ _ c.tell_head-cut.ensures)
