use Rattle.op_steps.specs.Store.{slot_seen}
use Rattle.bucket_ops.proofs.ChangeStepLemmas.{section_so}
use Rattle.bucket_ops.proofs.DocumentLemmas.{deed_no_part, deed_text}
use Rattle.bucket_ops.proofs.change.ChangeOpOp.section.Goals as goal

pub commit-turn-requires-clause-named : goal.commit-turn-requires-clause-named
commit-turn-requires-clause-named g c = let deed = c.in-Committing.deed in deed_text deed.commit deed.on_bucket deed.low

pub commit-turn-requires-clause-no_part : goal.commit-turn-requires-clause-no_part
commit-turn-requires-clause-no_part g c = let deed = c.in-Committing.deed in deed_no_part deed.commit deed.on_bucket

pub returns-clause-turns : goal.returns-clause-turns
returns-clause-turns g c =
    let op = c.args.self.now in
    let deed = c.in-Committing.deed in
    let turn = c.commit-turn.ensures in
    section_so {D = g.row.D.Denot} g.D.Drive c.row_laws.ensures.injective op.set op.sets_mode op.document op.bucket op.now op.state c.after_commit.result deed
    (slot_seen g.A.Audit.entries g.A.Audit.count c.args.slot.now) (slot_seen g.A.Audit.entries g.A.Audit.count c.commit-turn.new.self)
    c.commit-turn.result.answer c.commit-turn.result.stub c.args.disks.now c.commit-turn.new.disks c.commit_law.ensures c.requires.next c.in-Committing.is
    (λ fits. record {
      fits = fits;
      turns = turn.turns;
      says = turn.says;
      holds = turn.holds;
      checks = turn.checks;
      cause = turn.cause;
      leaves = turn.leaves fits;
      read = turn.disks_read;
    })
    turn.cause c.after_commit.ensures
