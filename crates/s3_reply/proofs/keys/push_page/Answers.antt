use Rattle.s3_reply.proofs.Chains.{after, last, rooted}
use Rattle.s3_reply.specs.Documents.{page_document}
use Rattle.s3_reply.proofs.keys.push_page.Goals as goal

pub returns : goal.returns
unfolding page_document
returns c =
    let inner = after c.push_root.new.out.items c.push_asked.new.out.items c.push_groups.new.out.items _ _ c.in_ok-push_asked.ensures (after c.push_asked.new.out.items c.push_end.new.out.items c.push_groups.new.out.items _ _ c.in_ok-push_end.ensures (after c.push_end.new.out.items c.push_keys.new.out.items c.push_groups.new.out.items _ _ c.in_ok-push_keys.ensures (last c.push_keys.new.out.items c.push_groups.new.out.items _ c.in_ok-push_groups.ensures))) in
    rooted c.args.out.now.items c.push_root.new.out.items c.push_groups.new.out.items c.push_close.new.out.items _ _ c.in_ok-push_root.ensures inner c.in_ok-push_close.ensures
