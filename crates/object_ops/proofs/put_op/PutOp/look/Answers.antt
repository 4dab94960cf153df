use Rattle.std.proofs.Common.{◌∙◌}
use Rattle.drive_base.specs.View.{views}
use Rattle.op_steps.specs.Store.{slot_seen}
use Rattle.object_ops.specs.PutStands.{ask_of}
use Rattle.object_ops.specs.PutTarget.{key_of}
use Rattle.object_ops.proofs.PutOpLemmas.{look_so}
use Rattle.object_ops.proofs.PutLefts.{look_left, none_read}
use Rattle.object_ops.proofs.PutSound.{look_sound}
use Rattle.object_ops.proofs.put_op.PutOp.look.Goals as goal

pub returns-clause-turns : goal.returns-clause-turns
returns-clause-turns g c =
    let op = c.args.self.now in
    rw c.go_to.ensures (look_so (ask_of op) op.read g.D.Drive op.clearing op.state c.after_look.result c.as_str.result.now
    (slot_seen g.A.Audit.entries g.A.Audit.count c.args.slot.now) (slot_seen g.A.Audit.entries g.A.Audit.count c.look_at_bucket-look.new.slot)
    c.look_at_bucket-look.result (views g.D.Drive c.args.disks.now) (views g.D.Drive c.look_at_bucket-look.new.disks) c.requires.state
    (none_read op.long op.read op.state c.requires.state op.counted)
    (c.as_str.ensures.value ∙ op.named) c.requires.next c.look_at_bucket-look.ensures.looks c.after_look.ensures)

pub returns-clause-left : goal.returns-clause-left
returns-clause-left g c =
    let op = c.args.self.now in
    rw c.go_to.ensures (look_left op.set op.long op.read op.clearing op.state c.after_look.result c.look_at_bucket-look.result.looked c.requires.state
    (none_read op.long op.read op.state c.requires.state op.counted) c.after_look.ensures)

pub look_at_bucket-look-requires-clause-named : goal.look_at_bucket-look-requires-clause-named
look_at_bucket-look-requires-clause-named g c = ((key_of c.args.self.now.target).bucket, c.as_str.ensures.value ∙ c.args.self.now.named)

pub invariant_of-self-clause-counted : goal.invariant_of-self-clause-counted
invariant_of-self-clause-counted g c =
    let op = c.args.self.now in
    rw c.go_to.ensures ((look_sound op.long op.read op.set.drives c.look_at_bucket-look.result.looked c.after_look.result (none_read op.long op.read op.state c.requires.state op.counted)
    c.after_look.ensures).counted)

pub invariant_of-self-clause-reached : goal.invariant_of-self-clause-reached
invariant_of-self-clause-reached g c =
    let op = c.args.self.now in
    rw c.go_to.ensures ((look_sound op.long op.read op.set.drives c.look_at_bucket-look.result.looked c.after_look.result (none_read op.long op.read op.state c.requires.state op.counted)
    c.after_look.ensures).reached)

pub invariant_of-self-clause-over : goal.invariant_of-self-clause-over
invariant_of-self-clause-over g c =
    let op = c.args.self.now in
    rw c.go_to.ensures ((look_sound op.long op.read op.set.drives c.look_at_bucket-look.result.looked c.after_look.result (none_read op.long op.read op.state c.requires.state op.counted)
    c.after_look.ensures).over)
