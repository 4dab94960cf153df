-- Formats: tables of fields, each with its rule, and what is found where a content is to follow one.
use Rattle.std.specs.Prelude.{ℕ, zero, suc, ◌+◌, List, [], ◌∷◌, ◌++◌, length, take, drop, Bool, Option, Some, None, Result, Ok, Err, nat_lt, ◌==◌, if◌then◌else◌}
use Rattle.std.specs.Int.{Width, w8, byte_len, from_be_bytes}

-- a place in a content, and the bytes from there on
pub record Spot : Type 0 where
  pub at : ℕ
  pub left : List ℕ

-- the spot before the first byte
abbrev pub start : List ℕ → Spot
start content = record { at = 0; left = content }

-- what is found at a spot: a value and the spot behind it, or the place of the first fault
abbrev pub Found : Type 0 → Type 0
Found A = Result (A × Spot) ℕ

-- a format of values says what is found at each spot
abbrev pub Format : Type 0 → Type 0
Format A = Spot → Found A

-- what is found behind what was found; a fault stays the first
abbrev pub and_then : {A B : Type 0} → Found A → (A → Format B) → Found B
and_then (Ok found) next = next found.0 found.1
and_then (Err place) next = Err place

-- one part and then the rest, whose format may depend on that part
infixl 10 ◌>>=◌
abbrev pub ◌>>=◌ : {A B : Type 0} → Format A → (A → Format B) → Format B
◌>>=◌ part rest spot = and_then (part spot) rest

-- no further field: the value is this one
abbrev pub done : {A : Type 0} → A → Format A
done value spot = Ok (value, spot)

-- A field of so many bytes. Where fewer are left, the fault is at the end of the content.
unfoldable pub field : ℕ → Format (List ℕ)
field size spot =
    if nat_lt (length spot.left) size then Err (spot.at + length spot.left)
    else Ok (take size spot.left, record { at = spot.at + size; left = drop size spot.left })

-- a big-endian number
unfoldable pub number : Width → Format ℕ
number w = field (byte_len w) >>= λ bytes. done (from_be_bytes w bytes)

-- a short text: its length as one byte, and so many bytes
unfoldable pub short_text : Format (List ℕ)
short_text = number w8 >>= λ size. field size

-- what was found, where its value keeps a rule; else a fault at this place
abbrev pub kept : {A : Type 0} → ℕ → (A → Bool) → Found A → Found A
kept place rule (Ok found) = if rule found.0 then Ok found else Err place
kept place rule (Err other) = Err other

-- A part with a rule. Where the part breaks it, the fault is at the start of the part.
abbrev pub with_rule : {A : Type 0} → (A → Bool) → Format A → Format A
with_rule rule part spot = kept spot.at rule (part spot)

-- so many parts, one after the other; the format of each may depend on those before it
unfoldable pub series : {A : Type 0} → ℕ → (List A → Format A) → List A → Format (List A)
series zero part before = done []
series (suc count) part before = part before >>= λ first. series count part (before ++ first ∷ []) >>= λ others. done (first ∷ others)

-- The end of the content. Where bytes follow, the fault is at the first of them.
unfoldable pub ends : Format (Unit {0})
ends spot = if length spot.left == 0 then Ok (tt, spot) else Err spot.at

-- a format and then the end
abbrev pub to_the_end : {A : Type 0} → Format A → Format A
to_the_end format = format >>= λ value. ends >>= λ _. done value

-- the value that is found, or the place of the first fault
abbrev pub value_found : {A : Type 0} → Found A → Result A ℕ
value_found (Ok found) = Ok found.0
value_found (Err place) = Err place

-- the value of a whole content, or the place of its first fault
unfoldable pub value_of : {A : Type 0} → Format A → List ℕ → Result A ℕ
value_of format content = value_found (to_the_end format (start content))

-- the place of a fault, if there is one
abbrev pub place_of : {A : Type 0} → Result A ℕ → Option ℕ
place_of (Ok value) = None
place_of (Err place) = Some place

-- the place of the first fault of a whole content, if it has one
abbrev pub fault_at : {A : Type 0} → Format A → List ℕ → Option ℕ
fault_at format content = place_of (value_of format content)
