use Rattle.s3_reply.proofs.Chains.{after, last, rooted}
use Rattle.s3_reply.specs.Documents.{versions_document}
use Rattle.s3_reply.proofs.rows.push_versions.Goals as goal

pub returns : goal.returns
unfolding versions_document
returns c =
    let inner = after c.push_root.new.out.items c.push_asked.new.out.items c.push_groups.new.out.items _ _ c.in_ok-push_asked.ensures (after c.push_asked.new.out.items c.push_end.new.out.items c.push_groups.new.out.items _ _ c.in_ok-push_end.ensures (after c.push_end.new.out.items c.push_rows.new.out.items c.push_groups.new.out.items _ _ c.in_ok-push_rows.ensures (last c.push_rows.new.out.items c.push_groups.new.out.items _ c.in_ok-push_groups.ensures))) in
    rooted c.args.out.now.items c.push_root.new.out.items c.push_groups.new.out.items c.push_close.new.out.items _ _ c.in_ok-push_root.ensures inner c.in_ok-push_close.ensures
