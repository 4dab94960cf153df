use Rattle.std.proofs.Common.{◌<◌, refl, subst, sym}
use Rattle.op_steps.specs.Words.{BarredSo}
use Rattle.object_ops.specs.Deeds.{DeedStands, StandsAt, left_at, step_of}
use Rattle.object_ops.proofs.DeedOpLemmas.{barred_so, pass_so}
use Rattle.object_ops.proofs.LeftLemmas.{barred_left}
use Rattle.object_ops.proofs.deed.DeedOpOp.barred.Goals as goal

pub returns-in-Told-clause-barred : goal.returns-in-Told-clause-barred
returns-in-Told-clause-barred c =
    let op = c.args.self.now in
    pass_so op.set op.at op.ask op.now op.clearing c.pass_over.new.self op.state c.in-Told.field-0 c.args.why c.in-Told.is c.pass_over.ensures.queue

pub returns-in_default : goal.returns-in_default
returns-in_default c =
    let op = c.args.self.now in
    record {
      set = refl;
      asked = refl;
      left = subst (λ s. left_at op.set op.clearing s < left_at op.set op.clearing op.state) (sym c.barred_state.ensures)
          (barred_left op.set op.at op.clearing op.state c.args.why c.in_default.not-Told c.requires.next);
      taken = refl;
      barred = subst (λ s. BarredSo (DeedStands op) (StandsAt op.set op.at op.ask op.now op.clearing s) (step_of op) c.args.why) (sym c.barred_state.ensures)
          (barred_so op.set op.at op.ask op.now op.clearing op.state c.args.why c.in_default.not-Told);
    }
