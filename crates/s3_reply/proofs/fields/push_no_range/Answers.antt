use Rattle.s3_reply.proofs.Chains.{chain2, chain3}
use Rattle.s3_reply.proofs.fields.push_no_range.Goals as goal

pub returns : goal.returns
returns c =
    let value = chain2 c.push_start.new.out.items c.push_bytes.new.out.items c.push_decimal.new.out.items _ _ c.in_ok-push_bytes.ensures c.in_ok-push_decimal.ensures in
    chain3 c.args.out.now.items c.push_start.new.out.items c.push_decimal.new.out.items c.push_bytes-2.new.out.items _ _ _ c.in_ok-push_start.ensures value c.in_ok-push_bytes-2.ensures
