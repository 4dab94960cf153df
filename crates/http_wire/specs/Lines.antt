-- Where the lines of a text end.
use Rattle.std.specs.Prelude.{◌≡◌, ℕ, ◌+◌, Bool, true, false, cond, ◌==◌, List, [], ◌∷◌, ◌++◌, length, take, ◌≤◌}
use Rattle.httparse.specs.Ascii.{line_feed}
use Rattle.httparse.specs.Pieces.{is_newline}

-- one, where the byte is LF
abbrev pub feed : ℕ → ℕ
feed b = cond (b == line_feed) 1 0

-- how many line feeds the text has
abbrev pub line_feeds : List ℕ → ℕ
line_feeds [] = 0
line_feeds (b ∷ text) = feed b + line_feeds text

-- the text from its first byte that is neither CR nor LF
abbrev pub from_start : List ℕ → List ℕ
from_start [] = []
from_start (b ∷ text) = cond (is_newline b) (from_start text) (b ∷ text)

-- the text has a byte that is neither CR nor LF
abbrev pub has_begun : List ℕ → Bool
has_begun [] = false
has_begun (b ∷ text) = cond (is_newline b) (has_begun text) true

-- how many line feeds the text has from its first byte that is neither CR nor LF
abbrev pub line_ends : List ℕ → ℕ
line_ends text = line_feeds (from_start text)

-- the text ends in a line feed, the 65th from its first byte that is neither CR nor LF
pub record EndsLine65 (text : List ℕ) : Type 0 where
  pub before : List ℕ
  pub text_is : text ≡ before ++ line_feed ∷ []
  pub count : line_ends text ≡ 65

-- no text of which this one is a front, or the whole, ends so
abbrev pub NoLine65 : List ℕ → Type 0
NoLine65 text = (front rest : List ℕ) → text ≡ front ++ rest → ¬ (EndsLine65 front)

-- the first n bytes end so
pub record Line65EndsAt (text : List ℕ) (n : ℕ) : Type 0 where
  pub fits : n ≤ length text
  pub ends : EndsLine65 (take n text)
