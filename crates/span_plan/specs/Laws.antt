-- What follows of ranges and their spans.
use Rattle.std.specs.Prelude.{◌≡◌, ◌↔◌, ℕ, ◌+◌, ◌<◌, ◌≤◌, Result, Ok, Err}
use Rattle.call_types.specs.declared.names.RangeAsk.{RangeAsk}
use Rattle.call_types.specs.declared.names.RangeAsk.TheVariants.{Whole, FromTo, From, Last}
use Rattle.call_types.specs.declared.names.Span.{Span}
use Rattle.span_plan.specs.declared.ranges.InvalidRange.{InvalidRange}
use Rattle.span_plan.specs.Span.{Plans, IsPartial}

-- A range asks for this place of a body of n bytes.
abbrev pub AsksFor : ℕ → RangeAsk → ℕ → Type 0
AsksFor n Whole place = place < n
AsksFor n (FromTo first last) place = (first ≤ place) × (place ≤ last) × (place < n)
AsksFor n (From first) place = (first ≤ place) × (place < n)
AsksFor n (Last count) place = (n ≤ place + count) × (place < n)

-- The place is in the span.
abbrev pub IsIn : Span → ℕ → Type 0
IsIn span place = (span.at ≤ place) × (place < span.at + span.length)

-- A length and a range have one answer.
abbrev pub PlansAreOne : Type 0
PlansAreOne = (n : ℕ) (ask : RangeAsk) (a b : Result Span InvalidRange) → Plans n ask a → Plans n ask b → a ≡ b

-- The span has exactly the places that are asked for.
abbrev pub SpansAreAsked : Type 0
SpansAreAsked = (n : ℕ) (ask : RangeAsk) (span : Span) → Plans n ask (Ok span) → (place : ℕ) → AsksFor n ask place ↔ IsIn span place

-- The span ends in the body.
abbrev pub SpansAreWithin : Type 0
SpansAreWithin = (n : ℕ) (ask : RangeAsk) (span : Span) → Plans n ask (Ok span) → span.at + span.length ≤ n

-- A part of a body is not empty.
abbrev pub PartsAreNotEmpty : Type 0
PartsAreNotEmpty = (n : ℕ) (ask : RangeAsk) (span : Span) → IsPartial n ask → Plans n ask (Ok span) → 0 < span.length

-- A range that is refused asks for no place of the body.
abbrev pub RefusedAskForNone : Type 0
RefusedAskForNone = (n : ℕ) (ask : RangeAsk) (invalid : InvalidRange) → Plans n ask (Err invalid) → (place : ℕ) → AsksFor n ask place → ⊥
