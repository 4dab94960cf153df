-- Texts inside a document: references for what XML reserves (XML 1.0, section 2.4), and the percent-encoding of `encoding-type=url`.
use Rattle.std.specs.Prelude.{ℕ, ◌-◌, Bool, true, not, ◌&&◌, ◌||◌, ◌==◌, nat_lt, nat_le, if◌then◌else◌, List, [], ◌∷◌, ◌++◌, codes}
use Rattle.std.specs.List.{flat_map}
use Rattle.std.specs.Fmt.{digit_glyph}
use Rattle.percent_encoding.specs.Percent.{percent_encode_byte}

-- a number below 32 in upper-case hex digits, without a leading zero
abbrev pub hex_of : ℕ → List ℕ
hex_of n = if nat_lt n 16 then digit_glyph true n ∷ [] else digit_glyph true 1 ∷ digit_glyph true (n - 16) ∷ []

-- the byte stands for itself: it is neither a control byte nor `&`, `<`, `>` or `"`
abbrev pub is_plain : ℕ → Bool
is_plain b = nat_le 32 b && not (b == 38 || b == 60 || b == 62 || b == 34)

-- a byte as a document has it
abbrev pub escaped_byte : ℕ → List ℕ
escaped_byte b =
    if is_plain b then b ∷ []
    else if b == 38 then codes "&amp;"
    else if b == 60 then codes "&lt;"
    else if b == 62 then codes "&gt;"
    else if b == 34 then codes "&quot;"
    else codes "&#x" ++ hex_of b ++ codes ";"

-- a text as a document has it
unfoldable pub escaped : List ℕ → List ℕ
escaped text = flat_map escaped_byte text

-- the byte stays in a percent-encoded name: a letter, a digit, or one of `-`, `.`, `_`, `~` and `/`
abbrev pub is_kept : ℕ → Bool
is_kept b =
    (nat_le 65 b && nat_le b 90) || (nat_le 97 b && nat_le b 122) || (nat_le 48 b && nat_le b 57)
    || (b == 45 || b == 46 || b == 95 || b == 126 || b == 47)

-- a byte of a percent-encoded name
abbrev pub url_byte : ℕ → List ℕ
url_byte b = if is_kept b then b ∷ [] else percent_encode_byte b

-- a percent-encoded name
unfoldable pub url_encoded : List ℕ → List ℕ
url_encoded name = flat_map url_byte name
