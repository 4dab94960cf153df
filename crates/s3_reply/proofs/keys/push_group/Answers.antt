use Rattle.s3_reply.proofs.Chains.{after}
use Rattle.s3_reply.proofs.keys.push_group.Goals as goal

pub returns : goal.returns
returns c = after c.args.out.now.items c.push_open.new.out.items c.push_close.new.out.items _ _ c.in_ok-push_open.ensures (after c.push_open.new.out.items c.push_listed_leaf.new.out.items c.push_close.new.out.items _ _ c.in_ok-push_listed_leaf.ensures c.in_ok-push_close.ensures)
