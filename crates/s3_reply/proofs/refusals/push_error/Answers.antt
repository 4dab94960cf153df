use Rattle.s3_reply.proofs.Chains.{after, last}
use Rattle.s3_reply.proofs.refusals.push_error.Goals as goal

pub returns : goal.returns
returns c =
    let inner = after c.push_open.new.out.items c.push_leaf.new.out.items c.push_leaf-2.new.out.items _ _ (rw c.code.ensures at c.in_ok-push_leaf.ensures) (after c.push_leaf.new.out.items c.push_message_leaf.new.out.items c.push_leaf-2.new.out.items _ _ c.in_ok-push_message_leaf.ensures (last c.push_message_leaf.new.out.items c.push_leaf-2.new.out.items _ c.in_ok-push_leaf-2.ensures)) in
    after c.args.out.now.items c.push_open.new.out.items c.push_close.new.out.items _ _ c.in_ok-push_open.ensures (after c.push_open.new.out.items c.push_leaf-2.new.out.items c.push_close.new.out.items _ _ inner c.in_ok-push_close.ensures)
