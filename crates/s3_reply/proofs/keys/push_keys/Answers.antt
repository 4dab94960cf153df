use Rattle.s3_reply.specs.Documents.{key_content}
use Rattle.s3_reply.proofs.Chains.{row_step}
use Rattle.s3_reply.proofs.keys.push_keys.Goals as goal

pub loop-row-preserved : goal.loop-row-preserved
loop-row-preserved c = row_step (key_content c.args.encoded) c.args.rows.now c.loop-row.row-index c.row-item.result c.args.out.now.items c.loop-row.out.items c.push_key.new.out.items
    c.loop-row-test.true c.row-item.is c.loop-row.invariant c.in_ok-push_key.ensures
