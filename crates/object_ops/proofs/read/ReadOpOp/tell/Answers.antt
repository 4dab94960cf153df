use Rattle.std.proofs.Common.{subst₂, sym}
use Rattle.op_steps.specs.Store.{teller_of}
use Rattle.op_steps.specs.Words.{TellsSo}
use Rattle.object_ops.specs.Read.{ReadStands}
use Rattle.object_ops.specs.ReadStands.{read_task}
use Rattle.object_ops.proofs.ReadLemmas.{tell_so}
use Rattle.object_ops.proofs.read.ReadOpOp.tell.Goals as goal

pub returns-in-Telling-clause-tells : goal.returns-in-Telling-clause-tells
returns-in-Telling-clause-tells g c =
    let op = c.args.self.now in
    let T = g.T.Teller in
    let cut = c.tell_head-cut.result in
    subst₂ (λ state later. TellsSo T.takes T.breaks (ReadStands op.set (read_task op) op.at op.pick op.kind state op.pin op.reading)
    (ReadStands op.set (read_task op) op.at op.pick op.kind later op.pin op.reading)
    (teller_of c.args.teller.now (T.faults c.args.teller.now)) (teller_of c.tell_head-cut.new.teller (T.faults c.tell_head-cut.new.teller)))
    (sym c.in-Telling.is) (sym c.ending_of.ensures)
    (tell_so op.set op.at op.pick op.kind op.matches op.now T.takes T.breaks c.in-Telling.reply op.pin op.reading cut _ _ c.tell_head-cut.ensures)
