use Rattle.std.proofs.Common.{◌+◌, ◌-◌, ◌<◌, ◌++◌, length, take, drop, arith}
use Rattle.s3_reply.specs.Escaping.{escaped, escaped_byte}
use Rattle.s3_reply.proofs.EscapedLemmas.{escaped_nil, escaped_more, further}
use Rattle.s3_reply.proofs.escaping.push_text.Goals as goal

pub loop-k-init : goal.loop-k-init
loop-k-init c = record { within = omega arith; written = rw escaped_nil }

pub loop-k-preserved : goal.loop-k-preserved
loop-k-preserved c =
    let k = c.loop-k.k in
    let xs = c.args.text.now in
    let low : k < length xs = omega arith in
    let next = c.push_reserved.new.out.items ++ take (k + 1 - c.in_ok-from.from) (drop c.in_ok-from.from xs) in
    record {
      within = c.in_ok-from.ensures.next;
      written = further escaped_byte escaped (c.loop-k.out.items ++ take (k - c.loop-k.from) (drop c.loop-k.from xs)) c.args.out.now.items next xs k
          (escaped_more xs k low) c.loop-k.invariant.written c.in_ok-from.ensures.written;
    }
