use Rattle.s3_reply.specs.Documents.{version_group_content}
use Rattle.s3_reply.proofs.Chains.{row_step}
use Rattle.s3_reply.proofs.rows.push_groups.Goals as goal

pub loop-row-preserved : goal.loop-row-preserved
loop-row-preserved c = row_step (version_group_content c.args.encoded) c.args.rows.now c.loop-row.row-index c.row-item.result c.args.out.now.items c.loop-row.out.items c.push_version_group.new.out.items
    c.loop-row-test.true c.row-item.is c.loop-row.invariant c.in_ok-push_version_group.ensures
