-- The parts of a head.
use Rattle.std.specs.Prelude.{ℕ, List, map, take}
use Rattle.httparse.specs.Grammar.{RequestHead}
use Rattle.httparse.specs.Spans.{span_bytes, header_bytes, name_and_value}
use Rattle.httparse.specs.declared.spans.HeaderSpan.{HeaderSpan}
use Rattle.httparse.specs.declared.spans.RequestSpans.{RequestSpans}

-- the method, the target, the minor version, and of each header line the name and the value, which has no white space
-- around it
pub record HeadParts : Type 0 where
  pub method : List ℕ
  pub target : List ℕ
  pub minor : ℕ
  pub lines : List (List ℕ × List ℕ)

-- the parts of a head of the grammar
abbrev pub parts_of : RequestHead → HeadParts
parts_of h = record { method = h.method; target = h.target; minor = h.minor; lines = map name_and_value h.fields }

-- what spans cover in a text
abbrev pub parts_at : List ℕ → List HeaderSpan → RequestSpans → HeadParts
parts_at text headers spans = record {
  method = span_bytes text spans.method;
  target = span_bytes text spans.path;
  minor = spans.version;
  lines = map (header_bytes text) (take spans.headers headers);
}
