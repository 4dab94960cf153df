use Rattle.s3_reply.proofs.Chains.{after, last}
use Rattle.s3_reply.proofs.rows.push_names.Goals as goal

pub returns : goal.returns
returns c = after c.args.out.now.items c.push_listed_leaf.new.out.items c.push_truth.new.out.items _ _ (rw c.as_slice.ensures at c.in_ok-push_listed_leaf.ensures) (after c.push_listed_leaf.new.out.items c.push_name_leaf.new.out.items c.push_truth.new.out.items _ _ c.in_ok-push_name_leaf.ensures (last c.push_name_leaf.new.out.items c.push_truth.new.out.items _ c.in_ok-push_truth.ensures))
