-- The laws of spans, range by range.
use Rattle.std.proofs.Common.{◌≡◌, ◌↔◌, ◌⊎◌, inl, inr, ℕ, ◌+◌, ◌<◌, ◌≤◌, Result, Ok, Err, refl, sym, ap, ◌∙◌, arith}
use Rattle.call_types.specs.declared.names.RangeAsk.{RangeAsk}
use Rattle.call_types.specs.declared.names.RangeAsk.TheVariants.{Whole, FromTo, From, Last}
use Rattle.call_types.specs.declared.names.Span.{Span}
use Rattle.span_plan.specs.declared.ranges.InvalidRange.{InvalidRange}
use Rattle.span_plan.specs.Span.{IsSatisfiable, IsUnsatisfiable, Plans, IsPartial}
use Rattle.span_plan.specs.Laws.{AsksFor, IsIn}

-- a range is not both
not_both : (n : ℕ) (ask : RangeAsk) → IsSatisfiable n ask → IsUnsatisfiable n ask → ⊥
not_both n Whole can cannot = cannot
not_both n (FromTo first last) can cannot = elim cannot [ inl above ↦ omega (arith, can.0, above) | inr past ↦ omega (arith, can.1, past) ]
not_both n (From first) can cannot = omega (arith, can, cannot)
not_both n (Last count) can cannot = omega (arith, can, cannot)

same_span : (a b : Span) → a.at ≡ b.at → a.length ≡ b.length → a ≡ b
same_span a b at size = λ i. record { at = at i; length = size i }

same_invalid : (a b : InvalidRange) → a.0 ≡ b.0 → a ≡ b
same_invalid a b same = λ i. record { 0 = same i }

abbrev spanned : Span → Result Span InvalidRange
spanned span = Ok span

abbrev refused : InvalidRange → Result Span InvalidRange
refused invalid = Err invalid

pub plans_one : (n : ℕ) (ask : RangeAsk) (a b : Result Span InvalidRange) → Plans n ask a → Plans n ask b → a ≡ b
plans_one n ask (Ok a) (Ok b) p q = ap spanned (same_span a b (p.1 ∙ sym q.1) (omega (arith, p.1, p.2, q.1, q.2)))
plans_one n ask (Ok a) (Err b) p q = absurd (not_both n ask p.0 q.0)
plans_one n ask (Err a) (Ok b) p q = absurd (not_both n ask q.0 p.0)
plans_one n ask (Err a) (Err b) p q = ap refused (same_invalid a b (p.1 ∙ sym q.1))

pub spans_asked : (n : ℕ) (ask : RangeAsk) (span : Span) → Plans n ask (Ok span) → (place : ℕ) → AsksFor n ask place ↔ IsIn span place
spans_asked n Whole span p place = grind (arith, p)
spans_asked n (FromTo first last) span p place = grind (arith, p)
spans_asked n (From first) span p place = grind (arith, p)
spans_asked n (Last count) span p place = grind (arith, p)

pub spans_within : (n : ℕ) (ask : RangeAsk) (span : Span) → Plans n ask (Ok span) → span.at + span.length ≤ n
spans_within n Whole span p = omega (arith, p.2)
spans_within n (FromTo first last) span p = omega (arith, p.2)
spans_within n (From first) span p = omega (arith, p.2)
spans_within n (Last count) span p = omega (arith, p.2)

pub parts_not_empty : (n : ℕ) (ask : RangeAsk) (span : Span) → IsPartial n ask → Plans n ask (Ok span) → 0 < span.length
parts_not_empty n Whole span part p = absurd part
parts_not_empty n (FromTo first last) span part p = omega (arith, p.0.0, p.0.1, p.1, p.2)
parts_not_empty n (From first) span part p = omega (arith, p.0, p.1, p.2)
parts_not_empty n (Last count) span part p = omega (arith, part, p.0, p.1, p.2)

pub refused_none : (n : ℕ) (ask : RangeAsk) (invalid : InvalidRange) → Plans n ask (Err invalid) → (place : ℕ) → AsksFor n ask place → ⊥
refused_none n Whole invalid p place asks = p.0
refused_none n (FromTo first last) invalid p place asks = elim p.0 [ inl above ↦ omega (arith, asks.0, asks.1, above) | inr past ↦ omega (arith, asks.0, asks.2, past) ]
refused_none n (From first) invalid p place asks = omega (arith, p.0, asks.0, asks.1)
refused_none n (Last count) invalid p place asks = omega (arith, p.0, asks.0, asks.1)
