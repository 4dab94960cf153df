use Rattle.s3_reply.proofs.Chains.{after, last, rooted}
use Rattle.s3_reply.proofs.documents.push_opened.Goals as goal

pub returns : goal.returns
returns c =
    let inner = after c.push_root.new.out.items c.push_leaf.new.out.items c.push_leaf-3.new.out.items _ _ (rw c.as_slice.ensures at c.in_ok-push_leaf.ensures) (after c.push_leaf.new.out.items c.push_leaf-2.new.out.items c.push_leaf-3.new.out.items _ _ (rw c.as_slice-2.ensures at c.in_ok-push_leaf-2.ensures) (last c.push_leaf-2.new.out.items c.push_leaf-3.new.out.items _ (rw c.hyphenated.ensures at c.in_ok-push_leaf-3.ensures))) in
    rooted c.args.out.now.items c.push_root.new.out.items c.push_leaf-3.new.out.items c.push_close.new.out.items _ _ c.in_ok-push_root.ensures inner c.in_ok-push_close.ensures
