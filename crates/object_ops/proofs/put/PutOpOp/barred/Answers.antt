use Rattle.std.proofs.Common.{◌<◌, ap, sym, subst}
use Rattle.op_steps.specs.Words.{BarredSo, IsSection}
use Rattle.receipts.specs.Registers.{key_slot}
use Rattle.object_ops.specs.Put.{left_at, step_at, task_of}
use Rattle.object_ops.specs.PutStands.{PutStands, ask_of, step_of}
use Rattle.object_ops.specs.PutTarget.{key_of}
use Rattle.object_ops.proofs.PutBarred.{bars_left, bars_so, pass_left, takes_of}
use Rattle.object_ops.proofs.PutBars.{pass_so}
use Rattle.object_ops.proofs.PutSound.{barred_sound}
use Rattle.object_ops.proofs.PutTurns.{bars_on, left_same, stands_same}
use Rattle.object_ops.proofs.PutOpLemmas.{same_ask}
use Rattle.object_ops.proofs.put.PutOpOp.barred.Goals as goal

pub returns-in-Told-clause-barred : goal.returns-in-Told-clause-barred
returns-in-Told-clause-barred c =
    let op = c.args.self.now in
    pass_so (ask_of op) op.read op.clearing c.pass_over.new.self op.state c.in-Told.field-0 c.args.why c.in-Told.is
    (takes_of (key_slot (key_of op.target)) op.clearing (subst (λ s. IsSection (step_at (key_of op.target) op.clearing s)) c.in-Told.is c.requires.next)) c.pass_over.ensures.queue

pub returns-in-Told-clause-left : goal.returns-in-Told-clause-left
returns-in-Told-clause-left c =
    let op = c.args.self.now in
    pass_left op.set op.long op.read op.clearing c.pass_over.new.self op.state c.in-Told.field-0 c.in-Told.is
    (takes_of (key_slot (key_of op.target)) op.clearing (subst (λ s. IsSection (step_at (key_of op.target) op.clearing s)) c.in-Told.is c.requires.next)) c.pass_over.ensures.takes
    c.pass_over.ensures.queue

pub returns-in_default : goal.returns-in_default
returns-in_default c =
    let op = c.args.self.now in
    let out = c.moved_out-state.new.self in
    let m = c.moved_out-state.ensures in
    let later = c.barred_after.result in
    let after = bars_on op out c.moved_out-state.result later c.args.why m.out m.same m.read c.barred_after.ensures in
    record {
      set = m.same.set;
      asked = ap task_of (same_ask op out m.same);
      left = subst (λ n. n < left_at op.set op.long op.read op.clearing op.state) (sym (left_same op out later m.same m.read m.clearing))
          (bars_left op later c.args.why c.in_default.not-Told after c.requires.next);
      taken = m.read;
      barred = subst (λ P. BarredSo (PutStands op) P (step_of op) c.args.why) (stands_same op out later m.same m.read m.clearing)
          (bars_so op later c.args.why c.in_default.not-Told after);
    }

pub invariant_of-self-in_default-clause-counted : goal.invariant_of-self-in_default-clause-counted
invariant_of-self-in_default-clause-counted c =
    let out = c.moved_out-state.new.self in
    (barred_sound out.long out.read out.set.drives c.moved_out-state.result c.args.why c.barred_after.result c.barred_after.ensures).counted

pub invariant_of-self-in_default-clause-reached : goal.invariant_of-self-in_default-clause-reached
invariant_of-self-in_default-clause-reached c =
    let out = c.moved_out-state.new.self in
    (barred_sound out.long out.read out.set.drives c.moved_out-state.result c.args.why c.barred_after.result c.barred_after.ensures).reached

pub invariant_of-self-in_default-clause-over : goal.invariant_of-self-in_default-clause-over
invariant_of-self-in_default-clause-over c =
    let out = c.moved_out-state.new.self in
    (barred_sound out.long out.read out.set.drives c.moved_out-state.result c.args.why c.barred_after.result c.barred_after.ensures).over
