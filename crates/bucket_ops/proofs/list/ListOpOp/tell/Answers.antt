use Rattle.std.proofs.Common.{subst, sym}
use Rattle.op_steps.specs.Store.{teller_of}
use Rattle.op_steps.specs.Words.{TellsSo}
use Rattle.bucket_ops.specs.Lists.{ListStands}
use Rattle.bucket_ops.specs.declared.list_state.ListState.TheVariants.{Over}
use Rattle.bucket_ops.proofs.ListStepLemmas.{tell_so}
use Rattle.bucket_ops.proofs.list.ListOpOp.tell.Goals as goal

pub returns-in-Telling-clause-tells : goal.returns-in-Telling-clause-tells
returns-in-Telling-clause-tells g c =
    let op = c.args.self.now in
    let T = g.T.Teller in
    let cut = c.tell_head-cut.result in
    subst (λ state. TellsSo T.takes T.breaks (ListStands op.set op.now state) (ListStands op.set op.now (Over cut))
    (teller_of c.args.teller.now (T.faults c.args.teller.now)) (teller_of c.tell_head-cut.new.teller (T.faults c.tell_head-cut.new.teller)))
    (sym c.in-Telling.is) (tell_so T.takes T.breaks op.set op.now c.in-Telling.reply cut _ _ c.tell_head-cut.ensures)
