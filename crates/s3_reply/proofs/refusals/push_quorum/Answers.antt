use Rattle.s3_reply.proofs.Chains.{text2}
use Rattle.s3_reply.proofs.refusals.push_quorum.Goals as goal

pub returns : goal.returns
returns c = text2 c.args.out.now.items c.push_text.new.out.items c.push_letters.new.out.items _ _ c.in_ok-push_text.ensures c.in_ok-push_letters.ensures
