use Rattle.op_steps.specs.Store.{slot_seen}
use Rattle.op_steps.proofs.BucketLookLemmas.{looks_so}
use Rattle.op_steps.proofs.looking.look_at_bucket.Goals as goal

pub returns-clause-looks : goal.returns-clause-looks
returns-clause-looks g c =
    let peek = c.peek-turn.ensures in
    looks_so g.D.Drive c.args.name.now (slot_seen g.A.Audit.entries g.A.Audit.count c.args.slot.now)
    (slot_seen g.A.Audit.entries g.A.Audit.count c.peek-turn.new.self) c.peek-turn.result.answer
    (record { looked = c.looked_of-looked.result; stub = c.peek-turn.result.stub }) c.args.disks.now c.peek-turn.new.disks
    (record {
      turns = peek.turns;
      says = peek.says;
      holds = peek.holds;
      cause = peek.cause;
      leaves = peek.leaves;
      read = peek.disks_read;
    })
    c.looked_of-looked.ensures
