use Rattle.std.proofs.Common.{◌∙◌, ◌<◌, Some, ap, sym, subst}
use Rattle.op_steps.specs.Store.{slot_seen}
use Rattle.op_steps.specs.Words.{TurnsSo}
use Rattle.object_ops.specs.Put.{left_at}
use Rattle.object_ops.specs.PutStands.{PutStands, PutStandsAt, ask_of}
use Rattle.object_ops.specs.declared.put_state.PutState.TheVariants.{Told}
use Rattle.object_ops.proofs.PutAnswers.{drop_says}
use Rattle.object_ops.proofs.PutLefts.{told_left}
use Rattle.object_ops.proofs.PutOpLemmas.{lefts_on, no_stub, stands_on}
use Rattle.object_ops.proofs.PutOver.{drop_so}
use Rattle.object_ops.proofs.put_op.PutOp.give_up.Goals as goal

pub returns-clause-turns : goal.returns-clause-turns
returns-clause-turns g c = λ disks.
    let op = c.args.self.now in
    let out = c.moved_out.new.self in
    let turn = c.drop_put.ensures in
    let was = slot_seen g.A.Audit.entries g.A.Audit.count c.args.slot.now in
    let after = slot_seen g.A.Audit.entries g.A.Audit.count c.drop_put.new.self in
    let none = no_stub was.numbers c.drop_put.result.answer c.drop_put.result.stub turn.done turn.turns.stub_is in
    let D = g.D.Drive in
    rw c.go_to.ensures (subst (λ P. TurnsSo D (PutStands op) P c.drop_put.result.stub was after disks disks)
    (stands_on op out c.begin.new.self (Told (Some c.in-Dropping.cut)) c.moved_out.ensures.same c.moved_out.ensures.read)
    (subst (λ s. TurnsSo D (PutStands op) (PutStandsAt (ask_of op) op.read c.begin.new.self (Told (Some c.in-Dropping.cut))) s was after disks disks) (sym none)
    (drop_so (ask_of op) op.read D op.clearing c.begin.new.self op.state c.in-Dropping.flight c.in-Dropping.cut was after c.drop_put.result.answer disks
    (sym c.moved_out.ensures.out ∙ c.in-Dropping.is) (c.begin.ensures.queue ∙ ap (λ k. k.queue.items) c.moved_out.ensures.clearing) c.requires.next
    (drop_says D was after c.in-Dropping.flight.id c.drop_put.result.answer c.drop_put.result.stub none
    (record { turns = turn.turns; holds = turn.holds; leaves = turn.leaves })))))

pub returns-clause-left : goal.returns-clause-left
returns-clause-left g c =
    let op = c.args.self.now in
    let out = c.moved_out.new.self in
    rw c.go_to.ensures (subst (λ n. n < left_at op.set op.long op.read op.clearing op.state)
    (sym (lefts_on op out c.begin.new.self (Told (Some c.in-Dropping.cut)) c.moved_out.ensures.same c.moved_out.ensures.read))
    (told_left op.set op.long op.read op.clearing c.begin.new.self op.state c.in-Dropping.flight c.in-Dropping.cut
    (sym c.moved_out.ensures.out ∙ c.in-Dropping.is) c.begin.ensures.takes (c.begin.ensures.queue ∙ ap (λ k. k.queue.items) c.moved_out.ensures.clearing)))
