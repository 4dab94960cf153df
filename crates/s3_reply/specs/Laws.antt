-- What follows of the texts of replies.
use Rattle.std.specs.Prelude.{◌≡◌, ℕ, true, Bool, not, ◌&&◌, ◌||◌, ◌==◌, nat_le, List}
use Rattle.std.specs.List.{list_all}
use Rattle.s3_reply.specs.Escaping.{escaped}

-- the byte neither begins nor ends a tag, ends no attribute's value, and is no control byte
abbrev pub stays_inside : ℕ → Bool
stays_inside b = nat_le 32 b && not (b == 60 || b == 62 || b == 34)

-- No text of a document ends its element or begins another, whatever its bytes are.
abbrev pub TextsStayInside : Type 0
TextsStayInside = (text : List ℕ) → list_all stays_inside (escaped text) ≡ true
