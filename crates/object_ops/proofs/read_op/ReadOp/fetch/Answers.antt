use Rattle.std.proofs.Common.{◌∙◌, None, ap, sym}
use Rattle.object_ops.specs.Read.{needs_pin}
use Rattle.object_ops.specs.ReadingPlan.{drives_of}
use Rattle.object_ops.specs.declared.read_op.ReadState.TheVariants.{Ending}
use Rattle.object_ops.proofs.ReadLeft.{held_on}
use Rattle.object_ops.proofs.ReadTelling.{fetch_as}
use Rattle.object_ops.proofs.read_op.ReadOp.fetch.Goals as goal

pub invariant_of-self-in-None : goal.invariant_of-self-in-None
invariant_of-self-in-None g c =
    let op = c.args.self.now in
    record {
      named = op.named;
      held = rw c.go_to-in-None.ensures (held_on op.state (Ending None) op.pin op.held (ap needs_pin c.requires.state));
      same_drives = ap (drives_of op.set) c.reading_out.ensures.none;
      short = op.short;
      bucket_text = op.bucket_text;
      key_text = op.key_text;
      key_short = op.key_short;
    }

pub returns-in-Some-clause-calls : goal.returns-in-Some-clause-calls
returns-in-Some-clause-calls g c =
    let op = c.args.self.now in
    let step = c.step-stepped in
    rw (c.go_to.ensures, c.put_in.ensures) (fetch_as op.set op.at op.pick g.D.Drive op.kind op.matches op.now c.in-Some.reading step.new.self step.result op.state c.fetched_state.result op.pin op.reading
    c.args.disks.now step.new.disks c.requires.state (sym c.reading_out.ensures.out ∙ c.in-Some.is) c.fetched_state.ensures step.ensures.stays step.ensures.steps
    step.auto.disks)
