-- The bytes that documents are made of.
use Rattle.std.specs.Prelude.{ℕ, Bool, nat_le, ◌&&◌, ◌||◌, ◌==◌}

-- white space: space, tab, CR or LF
abbrev pub is_blank : ℕ → Bool
is_blank b = b == 32 || b == 9 || b == 13 || b == 10

-- a decimal digit
abbrev pub is_digit : ℕ → Bool
is_digit b = nat_le 48 b && nat_le b 57

-- a letter, of either case
abbrev pub is_letter : ℕ → Bool
is_letter b = nat_le 65 b && nat_le b 90 || nat_le 97 b && nat_le b 122

-- a byte of an element's name behind the first, which is a letter
abbrev pub is_name_byte : ℕ → Bool
is_name_byte b = is_letter b || is_digit b
