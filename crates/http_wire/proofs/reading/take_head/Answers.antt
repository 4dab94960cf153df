use Rattle.std.proofs.Common.{◌≡◌, List, ℕ, take, ap, sym, subst, ◌∙◌, arith, length-take}
use Rattle.httparse.specs.Spans.{IsRequestWithin}
use Rattle.http_wire.specs.Parts.{parts_at}
use Rattle.http_wire.proofs.HeadLemmas.{parts_found}
use Rattle.http_wire.proofs.ArrivalLemmas.{begins_whole}
use Rattle.http_wire.proofs.reading.take_head.Goals as goal

pub copy_of-requires : goal.copy_of-requires
copy_of-requires c =
    let front : c.first_bytes.result.now ≡ take 65536 c.args.window.now = c.first_bytes.ensures.first ∙ ap (take 65536) c.bytes.ensures in
    subst (λ (t : List ℕ). IsRequestWithin t c.args.headers.now c.args.spans) (sym front) c.requires.0

pub frame-requires : goal.frame-requires
frame-requires c =
    let text = c.args.window.now in
    let headers = c.args.headers.now in
    let spans = c.args.spans in
    let h = c.requires.1.0 in
    let at = c.requires.1.2 in
    let front : c.first_bytes.result.now ≡ take 65536 text = c.first_bytes.ensures.first ∙ ap (take 65536) c.bytes.ensures in
    record {
      tree = h;
      begins = begins_whole text spans.len h at.len c.requires.1.1;
      parts = subst (λ (t : List ℕ). c.in-Ok.head ≡ parts_at t headers spans) front c.in-Ok.ensures
          ∙ parts_found (take 65536 text) headers spans h at;
      fits = omega (arith, c.requires.0.section.len_fits, length-take 65536 text);
    }
