use Rattle.s3_reply.proofs.Chains.{after, last}
use Rattle.s3_reply.proofs.rows.push_end.Goals as goal

pub returns : goal.returns
returns c = after c.args.out.now.items c.push_optional.new.out.items c.push_truth.new.out.items _ _ c.in_ok-push_optional.ensures (after c.push_optional.new.out.items c.push_next_id.new.out.items c.push_truth.new.out.items _ _ c.in_ok-push_next_id.ensures (after c.push_next_id.new.out.items c.push_number.new.out.items c.push_truth.new.out.items _ _ c.in_ok-push_number.ensures (after c.push_number.new.out.items c.push_encoding.new.out.items c.push_truth.new.out.items _ _ c.in_ok-push_encoding.ensures (last c.push_encoding.new.out.items c.push_truth.new.out.items _ c.in_ok-push_truth.ensures))))
