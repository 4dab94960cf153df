-- Header lines by their names, without regard to case.
use Rattle.std.specs.Prelude.{◌≡◌, ◌<◌, ℕ, Bool, List, [], length, map, slice_index_or, Option}
use Rattle.std.specs.Char.{to_ascii_lowercase}
use Rattle.std.specs.Map.{lookup}
use Rattle.std.specs.Str.{bytes_eq}

-- header lines, each a name and a value
abbrev pub Lines : Type 0
Lines = List (List ℕ × List ℕ)

-- line k
abbrev pub line : Lines → ℕ → List ℕ × List ℕ
line lines k = slice_index_or lines k ([], [])

-- the text is this name, without regard to case
abbrev pub IsNamed : List ℕ → List ℕ → Type 0
IsNamed name text = map to_ascii_lowercase text ≡ map to_ascii_lowercase name

-- no line has the name
abbrev pub NoneNamed : List ℕ → Lines → Type 0
NoneNamed name lines = (k : ℕ) → k < length lines → ¬ (IsNamed name (line lines k).0)

-- line i is the first that has the name
pub record IsFirst (name : List ℕ) (lines : Lines) (i : ℕ) : Type 0 where
  pub inside : i < length lines
  pub named : IsNamed name (line lines i).0
  pub first : (k : ℕ) → k < i → ¬ (IsNamed name (line lines k).0)

-- whether the text is this name, without regard to case
abbrev pub has_name : List ℕ → List ℕ → Bool
has_name name text = bytes_eq (map to_ascii_lowercase text) (map to_ascii_lowercase name)

-- the value of the first line that has the name
abbrev pub value_of : Lines → List ℕ → Option (List ℕ)
value_of lines name = lookup (has_name name) lines
