-- The bytes of a body of n bytes that a range gives (RFC 9110, section 14.1.2).
use Rattle.std.specs.Prelude.{◌≡◌, ◌⊎◌, ℕ, ◌+◌, ◌-◌, ◌<◌, ◌≤◌, min, Result, Ok, Err}
use Rattle.call_types.specs.declared.names.RangeAsk.{RangeAsk}
use Rattle.call_types.specs.declared.names.RangeAsk.TheVariants.{Whole, FromTo, From, Last}
use Rattle.call_types.specs.declared.names.Span.{Span}
use Rattle.span_plan.specs.declared.ranges.InvalidRange.{InvalidRange}

-- A range is satisfiable where its first place is in the body, and a suffix where it has a byte.
abbrev pub IsSatisfiable : ℕ → RangeAsk → Type 0
IsSatisfiable n Whole = Unit {0}
IsSatisfiable n (FromTo first last) = (first ≤ last) × (first < n)
IsSatisfiable n (From first) = first < n
IsSatisfiable n (Last count) = 0 < count

-- else it is not
abbrev pub IsUnsatisfiable : ℕ → RangeAsk → Type 0
IsUnsatisfiable n Whole = ⊥
IsUnsatisfiable n (FromTo first last) = (last < first) ⊎ (n ≤ first)
IsUnsatisfiable n (From first) = n ≤ first
IsUnsatisfiable n (Last count) = count ≡ 0

-- the place of the first byte
abbrev pub first_of : ℕ → RangeAsk → ℕ
first_of n Whole = 0
first_of n (FromTo first last) = first
first_of n (From first) = first
first_of n (Last count) = n - count

-- the place behind the last byte
abbrev pub end_of : ℕ → RangeAsk → ℕ
end_of n Whole = n
end_of n (FromTo first last) = min (last + 1) n
end_of n (From first) = n
end_of n (Last count) = n

-- The answer to a range: the span from its first byte to its last one where it is satisfiable, and else the length.
abbrev pub Plans : ℕ → RangeAsk → Result Span InvalidRange → Type 0
Plans n ask (Ok span) = IsSatisfiable n ask × (span.at ≡ first_of n ask) × (span.at + span.length ≡ end_of n ask)
Plans n ask (Err invalid) = IsUnsatisfiable n ask × (invalid.0 ≡ n)

-- A reply with the span is a part of the body where a range is asked for and the body is not empty.
abbrev pub IsPartial : ℕ → RangeAsk → Type 0
IsPartial n Whole = ⊥
IsPartial n (FromTo first last) = 0 < n
IsPartial n (From first) = 0 < n
IsPartial n (Last count) = 0 < n
