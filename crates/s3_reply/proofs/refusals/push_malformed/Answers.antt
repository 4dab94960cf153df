use Rattle.s3_reply.proofs.Chains.{text3}
use Rattle.s3_reply.proofs.refusals.push_malformed.Goals as goal

pub returns : goal.returns
returns c = text3 c.args.out.now.items c.push_text.new.out.items c.push_decimal.new.out.items c.push_text-2.new.out.items _ _ _ c.in_ok-push_text.ensures c.in_ok-push_decimal.ensures c.in_ok-push_text-2.ensures
