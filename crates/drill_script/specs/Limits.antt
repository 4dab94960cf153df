-- The limits of a script.
use Rattle.std.specs.Prelude.{ℕ}

-- the most lines of a script
abbrev pub most_lines : ℕ
most_lines = 100000

-- the most bytes of a line, without its LF
abbrev pub most_bytes : ℕ
most_bytes = 4096

-- the most bytes of a key
abbrev pub most_key : ℕ
most_key = 1024

-- the most bytes of a body that is filled
abbrev pub most_fill : ℕ
most_fill = 16777216
