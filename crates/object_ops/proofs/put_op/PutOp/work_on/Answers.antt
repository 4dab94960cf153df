use Rattle.std.proofs.Common.{◌∙◌, subst, sym}
use Rattle.drive_base.specs.View.{views}
use Rattle.op_steps.specs.Words.{CallsSo}
use Rattle.object_ops.specs.PutStands.{PutStands, PutStandsAt, ask_of}
use Rattle.object_ops.specs.declared.put_state.PutState.TheVariants.{Staging}
use Rattle.object_ops.specs.declared.clearing.Clearing.{Clearing}
use Rattle.object_ops.proofs.PutOpLemmas.{stands_on, work_so}
use Rattle.object_ops.proofs.put_op.PutOp.work_on.Goals as goal

pub returns-in-Staging-clause-calls : goal.returns-in-Staging-clause-calls
returns-in-Staging-clause-calls g c =
    let op = c.args.self.now in
    let out = c.moved_out.new.self in
    let D = g.D.Drive in
    let later = c.stepped.result in
    rw c.go_to.ensures (subst (λ (k : Clearing). CallsSo (PutStands op) (PutStandsAt (ask_of out) out.read k (Staging later)) op.set (views D c.args.disks.now) (views D c.stepped.new.disks))
    (sym c.moved_out.ensures.clearing)
    (subst (λ P. CallsSo (PutStands op) P op.set (views D c.args.disks.now) (views D c.stepped.new.disks))
    (stands_on op out op.clearing (Staging later) c.moved_out.ensures.same c.moved_out.ensures.read)
    (work_so (ask_of op) op.read D op.clearing op.state c.in-Staging.work later c.args.disks.now c.stepped.new.disks
    (sym c.moved_out.ensures.out ∙ c.in-Staging.is) c.requires.disks c.stepped.ensures.disks c.stepped.ensures.steps)))
