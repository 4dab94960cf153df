use Rattle.object_ops.proofs.DeedOpLemmas.{tell_so}
use Rattle.object_ops.proofs.deed.DeedOpOp.tell.Goals as goal

pub returns-in-Telling-clause-tells : goal.returns-in-Telling-clause-tells
returns-in-Telling-clause-tells g c =
    let op = c.args.self.now in
    let T = g.T.Teller in
    tell_so op.set op.at op.ask op.now T.takes T.breaks op.clearing op.state c.in-Telling.reply c.tell_head-cut.result _ _ c.in-Telling.is c.tell_head-cut.ensures
