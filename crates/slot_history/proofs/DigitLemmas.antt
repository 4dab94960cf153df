-- ASCII bytes are text.
use Rattle.std.proofs.Common.{ℕ, ◌<◌, List, [], ◌∷◌, zero, suc, arith}
use Rattle.std.specs.Str.{IsAscii, IsUtf8}
use Rattle.std.proofs.lemmas.Str.{IsUtf8-from_ascii}

-- no bytes are ASCII
none : IsAscii []
none i = grind arith

-- one byte below 128 more
one_more : (byte : ℕ) (bytes : List ℕ) → byte < 128 → IsAscii bytes → IsAscii (byte ∷ bytes)
one_more byte bytes low rest zero = low
one_more byte bytes low rest (suc i) = rest i

-- five bytes below 128 are text
pub five_are_text : (a b c d e : ℕ) → a < 128 → b < 128 → c < 128 → d < 128 → e < 128 → IsUtf8 (a ∷ b ∷ c ∷ d ∷ e ∷ [])
five_are_text a b c d e one two three four five = IsUtf8-from_ascii (a ∷ b ∷ c ∷ d ∷ e ∷ [])
    (one_more a (b ∷ c ∷ d ∷ e ∷ []) one (one_more b (c ∷ d ∷ e ∷ []) two (one_more c (d ∷ e ∷ []) three (one_more d (e ∷ []) four (one_more e [] five none)))))
