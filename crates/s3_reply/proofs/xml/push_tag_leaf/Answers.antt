use Rattle.s3_reply.proofs.Chains.{after, after_text, text3}
use Rattle.s3_reply.specs.Xml.{leaf}
use Rattle.s3_reply.proofs.xml.push_tag_leaf.Goals as goal

pub returns : goal.returns
unfolding leaf
returns c =
    let digits = after_text c.push_text.new.out.items c.push_md5.new.out.items c.push_part_count.new.out.items _ _ c.in_ok-push_md5.ensures c.in_ok-push_part_count.ensures in
    let tag = text3 c.push_open.new.out.items c.push_text.new.out.items c.push_part_count.new.out.items c.push_text-2.new.out.items _ _ _ c.in_ok-push_text.ensures digits c.in_ok-push_text-2.ensures in
    after c.args.out.now.items c.push_open.new.out.items c.push_close.new.out.items _ _ c.in_ok-push_open.ensures (after c.push_open.new.out.items c.push_text-2.new.out.items c.push_close.new.out.items _ _ tag c.in_ok-push_close.ensures)
