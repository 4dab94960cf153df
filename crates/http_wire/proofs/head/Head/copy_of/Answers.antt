use Rattle.std.proofs.Common.{◌≡◌, take, map, ◌∙◌}
use Rattle.httparse.specs.Spans.{span_bytes, header_bytes}
use Rattle.http_wire.proofs.HeadLemmas.{parts_front}
use Rattle.http_wire.proofs.head.Head.copy_of.Goals as goal

pub returns : goal.returns
returns c =
    let spans = c.args.spans in
    let copied : c.in_ok-copy.copy.items ≡ take spans.len c.args.bytes.now = c.in_ok-copy.ensures.items in
    let listed : c.in_ok-lines.lines.items ≡ take spans.headers c.args.headers.now = c.in_ok-lines.ensures.items in
    (λ i. record {
      method = span_bytes (copied i) spans.method;
      target = span_bytes (copied i) spans.path;
      minor = spans.version;
      lines = map (header_bytes (copied i)) (listed i);
    })
    ∙ parts_front c.args.bytes.now c.args.headers.now spans c.requires
