use Rattle.s3_reply.proofs.Chains.{after, last, rooted}
use Rattle.s3_reply.proofs.documents.push_buckets.Goals as goal

pub returns : goal.returns
returns c =
    let rows = after c.push_root.new.out.items c.push_open.new.out.items c.push_close.new.out.items _ _ c.in_ok-push_open.ensures (after c.push_open.new.out.items c.push_bucket_rows.new.out.items c.push_close.new.out.items _ _ c.in_ok-push_bucket_rows.ensures c.in_ok-push_close.ensures) in
    let inner = last c.push_root.new.out.items c.push_close.new.out.items _ rows in
    rooted c.args.out.now.items c.push_root.new.out.items c.push_close.new.out.items c.push_close-2.new.out.items _ _ c.in_ok-push_root.ensures inner c.in_ok-push_close-2.ensures
