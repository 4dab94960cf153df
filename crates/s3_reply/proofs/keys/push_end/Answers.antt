use Rattle.s3_reply.proofs.Chains.{after, last}
use Rattle.s3_reply.proofs.keys.push_end.Goals as goal

pub returns : goal.returns
returns c = after c.args.out.now.items c.push_token.new.out.items c.push_truth.new.out.items _ _ c.in_ok-push_token.ensures (after c.push_token.new.out.items c.push_number.new.out.items c.push_truth.new.out.items _ _ c.in_ok-push_number.ensures (after c.push_number.new.out.items c.push_number-2.new.out.items c.push_truth.new.out.items _ _ c.in_ok-push_number-2.ensures (after c.push_number-2.new.out.items c.push_encoding.new.out.items c.push_truth.new.out.items _ _ c.in_ok-push_encoding.ensures (last c.push_encoding.new.out.items c.push_truth.new.out.items _ c.in_ok-push_truth.ensures))))
