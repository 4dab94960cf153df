-- How values are spelled.
use Rattle.std.specs.Prelude.{ℕ, ◌<◌, List, [], ◌∷◌, ◌++◌, length, slice_index}
use Rattle.std.specs.Int.{Width, w8, to_be_bytes}

-- each item is a byte
abbrev pub IsBytes : List ℕ → Type 0
IsBytes bytes = (place : ℕ) → slice_index bytes place < 256

-- a big-endian number
unfoldable pub number_bytes : Width → ℕ → List ℕ
number_bytes w n = to_be_bytes w n

-- a short text
abbrev pub short_text_bytes : List ℕ → List ℕ
short_text_bytes text = number_bytes w8 (length text) ++ text

-- fields one after the other
abbrev pub joined : List (List ℕ) → List ℕ
joined [] = []
joined (field ∷ fields) = field ++ joined fields
