use Rattle.s3_reply.proofs.Chains.{chain5}
use Rattle.s3_reply.specs.Statuses.{status_line}
use Rattle.s3_reply.proofs.status.push_status_line.Goals as goal

pub returns : goal.returns
unfolding status_line
returns c = chain5 c.args.out.now.items c.push_bytes.new.out.items c.push_digits.new.out.items c.push_bytes-2.new.out.items c.push_phrase.new.out.items c.push_bytes-3.new.out.items _ _ _ _ _ c.in_ok-push_bytes.ensures c.in_ok-push_digits.ensures c.in_ok-push_bytes-2.ensures c.in_ok-push_phrase.ensures c.in_ok-push_bytes-3.ensures
