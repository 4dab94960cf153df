use Rattle.s3_reply.proofs.Chains.{after, last}
use Rattle.s3_reply.proofs.rows.push_asked.Goals as goal

pub returns : goal.returns
returns c = after c.args.out.now.items c.push_leaf.new.out.items c.push_id_marker.new.out.items _ _ c.in_ok-push_leaf.ensures (after c.push_leaf.new.out.items c.push_listed_leaf.new.out.items c.push_id_marker.new.out.items _ _ (rw c.as_slice.ensures at c.in_ok-push_listed_leaf.ensures) (after c.push_listed_leaf.new.out.items c.push_delimiter.new.out.items c.push_id_marker.new.out.items _ _ (rw c.as_slice-2.ensures at c.in_ok-push_delimiter.ensures) (after c.push_delimiter.new.out.items c.push_key_marker.new.out.items c.push_id_marker.new.out.items _ _ c.in_ok-push_key_marker.ensures (last c.push_key_marker.new.out.items c.push_id_marker.new.out.items _ c.in_ok-push_id_marker.ensures))))
