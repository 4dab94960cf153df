use Rattle.s3_reply.proofs.Chains.{text6}
use Rattle.s3_reply.proofs.refusals.push_undecided.Goals as goal

pub returns : goal.returns
returns c = text6 c.args.out.now.items c.push_text.new.out.items c.push_decimal.new.out.items c.push_text-2.new.out.items c.push_decimal-2.new.out.items c.push_text-3.new.out.items c.push_letters.new.out.items _ _ _ _ _ _ c.in_ok-push_text.ensures c.in_ok-push_decimal.ensures c.in_ok-push_text-2.ensures c.in_ok-push_decimal-2.ensures c.in_ok-push_text-3.ensures c.in_ok-push_letters.ensures
