use Rattle.std.proofs.Common.{◌+◌, ◌-◌, ◌<◌, ◌++◌, length, take, drop, arith}
use Rattle.s3_reply.specs.Escaping.{url_encoded, url_byte}
use Rattle.s3_reply.proofs.EscapedLemmas.{url_nil, url_more, further}
use Rattle.s3_reply.proofs.escaping.push_url.Goals as goal

pub loop-k-init : goal.loop-k-init
loop-k-init c = record { within = omega arith; written = rw url_nil }

pub loop-k-preserved : goal.loop-k-preserved
loop-k-preserved c =
    let k = c.loop-k.k in
    let xs = c.args.name.now in
    let low : k < length xs = omega arith in
    let next = c.push_percent.new.out.items ++ take (k + 1 - c.in_ok-from.from) (drop c.in_ok-from.from xs) in
    record {
      within = c.in_ok-from.ensures.next;
      written = further url_byte url_encoded (c.loop-k.out.items ++ take (k - c.loop-k.from) (drop c.loop-k.from xs)) c.args.out.now.items next xs k
          (url_more xs k low) c.loop-k.invariant.written c.in_ok-from.ensures.written;
    }
