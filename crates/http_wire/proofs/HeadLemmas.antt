-- Spans of a text, and of its first bytes.
use Rattle.std.proofs.Common.{◌≡◌, ℕ, ◌+◌, ◌-◌, List, [], ◌∷◌, take, drop, map, refl, ap, ◌∙◌, arith}
use Rattle.std.specs.Prelude.{All}
use Rattle.std.proofs.lemmas.List.{take-take, drop-take}
use Rattle.std.proofs.lemmas.List.Elements.{All-head, All-tail}
use Rattle.httparse.specs.Spans.{span_bytes, header_bytes, IsWithin, IsHeaderWithin, IsRequestWithin, IsRequestAt}
use Rattle.httparse.specs.Grammar.{RequestHead}
use Rattle.httparse.specs.declared.spans.Span.{Span}
use Rattle.httparse.specs.declared.spans.HeaderSpan.{HeaderSpan}
use Rattle.httparse.specs.declared.spans.RequestSpans.{RequestSpans}
use Rattle.http_wire.specs.Parts.{parts_of, parts_at}

-- a span of the first n bytes covers what it covers in the text
pub span_front : (text : List ℕ) (n : ℕ) (s : Span) → IsWithin n s → span_bytes (take n text) s ≡ span_bytes text s
span_front text n s within =
    let parts : n ≡ s.start + (n - s.start) = omega (arith, within) in
    ap (λ (k : ℕ). take (s.end - s.start) (drop s.start (take k text))) parts
    ∙ ap (λ (t : List ℕ). take (s.end - s.start) t) (drop-take s.start (n - s.start) text)
    ∙ take-take (s.end - s.start) (n - s.start) (drop s.start text) (omega (arith, within))

pub lines_front : (text : List ℕ) (n : ℕ) (lines : List HeaderSpan) → All (IsHeaderWithin n) lines
    → map (header_bytes (take n text)) lines ≡ map (header_bytes text) lines
lines_front text n [] all = refl
lines_front text n (line ∷ lines) all =
    let here = All-head (IsHeaderWithin n) line lines all in
    let name = span_front text n line.name here.0 in
    let value = span_front text n line.value here.1 in
    let rest = lines_front text n lines (All-tail (IsHeaderWithin n) line lines all) in
    λ i. (name i, value i) ∷ rest i

pub parts_front : (text : List ℕ) (headers : List HeaderSpan) (r : RequestSpans) → IsRequestWithin text headers r
    → parts_at (take r.len text) headers r ≡ parts_at text headers r
parts_front text headers r within =
    let method = span_front text r.len r.method within.method in
    let target = span_front text r.len r.path within.path in
    let lines = lines_front text r.len (take r.headers headers) within.section.headers_fit in
    λ i. record { method = method i; target = target i; minor = r.version; lines = lines i }

-- what the parser found is the head
pub parts_found : (text : List ℕ) (headers : List HeaderSpan) (r : RequestSpans) (h : RequestHead)
    → IsRequestAt text headers r h → parts_at text headers r ≡ parts_of h
parts_found text headers r h at =
    λ i. record { method = at.method i; target = at.path i; minor = at.version i; lines = at.fields i }
