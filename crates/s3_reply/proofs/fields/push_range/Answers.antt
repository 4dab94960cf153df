use Rattle.s3_reply.proofs.Chains.{chain3, chain6}
use Rattle.s3_reply.proofs.fields.push_range.Goals as goal

pub returns : goal.returns
returns c =
    let value = chain6 c.push_start.new.out.items c.push_bytes.new.out.items c.push_decimal.new.out.items c.push_bytes-2.new.out.items c.push_last.new.out.items c.push_bytes-3.new.out.items c.push_decimal-2.new.out.items _ _ _ _ _ _ c.in_ok-push_bytes.ensures c.in_ok-push_decimal.ensures c.in_ok-push_bytes-2.ensures c.in_ok-push_last.ensures c.in_ok-push_bytes-3.ensures c.in_ok-push_decimal-2.ensures in
    chain3 c.args.out.now.items c.push_start.new.out.items c.push_decimal-2.new.out.items c.push_bytes-4.new.out.items _ _ _ c.in_ok-push_start.ensures value c.in_ok-push_bytes-4.ensures
