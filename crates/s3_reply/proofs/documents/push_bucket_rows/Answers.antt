use Rattle.s3_reply.specs.Documents.{bucket_content}
use Rattle.s3_reply.proofs.Chains.{row_step}
use Rattle.s3_reply.proofs.documents.push_bucket_rows.Goals as goal

pub loop-row-preserved : goal.loop-row-preserved
loop-row-preserved c = row_step bucket_content c.args.rows.now c.loop-row.row-index c.row-item.result c.args.out.now.items c.loop-row.out.items c.push_bucket.new.out.items
    c.loop-row-test.true c.row-item.is c.loop-row.invariant c.in_ok-push_bucket.ensures
