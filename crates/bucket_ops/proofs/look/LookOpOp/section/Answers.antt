use Rattle.std.proofs.Common.{◌∙◌}
use Rattle.op_steps.specs.Store.{slot_seen}
use Rattle.bucket_ops.proofs.OpLemmas.{section_so}
use Rattle.bucket_ops.proofs.look.LookOpOp.section.Goals as goal

pub returns-clause-turns : goal.returns-clause-turns
returns-clause-turns g c =
    let op = c.args.self.now in
    let peek = c.peek-turn.ensures in
    section_so g.D.Drive op.set op.asks_mode op.bucket c.as_str.result.now op.now op.state c.answer_of.result
    (slot_seen g.A.Audit.entries g.A.Audit.count c.args.slot.now) (slot_seen g.A.Audit.entries g.A.Audit.count c.peek-turn.new.self)
    c.peek-turn.result.answer c.peek-turn.result.stub c.args.disks.now c.peek-turn.new.disks c.look_law.ensures c.requires.next
    (c.as_str.ensures.value ∙ op.named)
    (record {
      turns = peek.turns;
      says = peek.says;
      holds = peek.holds;
      cause = peek.cause;
      leaves = peek.leaves;
      read = peek.disks_read;
    })
    c.answer_of.ensures
