use Rattle.std.proofs.Common.{◌∙◌, None, ap, sym}
use Rattle.op_steps.specs.Store.{teller_of}
use Rattle.object_ops.specs.Read.{needs_pin}
use Rattle.object_ops.specs.ReadingPlan.{drives_of}
use Rattle.object_ops.specs.declared.read_op.ReadState.TheVariants.{Ending}
use Rattle.object_ops.proofs.ReadLeft.{held_on}
use Rattle.object_ops.proofs.ReadTelling.{give_as}
use Rattle.object_ops.proofs.read_op.ReadOp.tell_next.Goals as goal

pub invariant_of-self-in-None : goal.invariant_of-self-in-None
invariant_of-self-in-None g c =
    let op = c.args.self.now in
    record {
      named = op.named;
      held = rw c.go_to-in-None.ensures (held_on op.state (Ending None) op.pin op.held (ap needs_pin c.requires));
      same_drives = ap (drives_of op.set) c.reading_out.ensures.none;
      short = op.short;
      bucket_text = op.bucket_text;
      key_text = op.key_text;
      key_short = op.key_short;
    }

pub returns-in-Some-clause-tells : goal.returns-in-Some-clause-tells
returns-in-Some-clause-tells g c =
    let op = c.args.self.now in
    let T = g.T.Teller in
    let told = c.tell-cut in
    rw (c.go_to.ensures, c.put_in.ensures) (give_as op.set op.at op.pick T.takes T.breaks op.kind op.matches op.now c.in-Some.reading told.new.self op.state c.told_state.result op.pin op.reading told.result
    (teller_of c.args.teller.now (T.faults c.args.teller.now)) (teller_of told.new.teller (T.faults told.new.teller))
    c.requires (sym c.reading_out.ensures.out ∙ c.in-Some.is) c.told_state.ensures told.ensures.told told.ensures.moves)
