use Rattle.s3_reply.proofs.Chains.{after}
use Rattle.s3_reply.specs.Xml.{leaf}
use Rattle.s3_reply.proofs.xml.push_listed_leaf.Goals as goal

pub returns : goal.returns
unfolding leaf
returns c = after c.args.out.now.items c.push_open.new.out.items c.push_close.new.out.items _ _ c.in_ok-push_open.ensures (after c.push_open.new.out.items c.push_listed.new.out.items c.push_close.new.out.items _ _ c.in_ok-push_listed.ensures c.in_ok-push_close.ensures)
