-- The limit of the parts of an upload.
use Rattle.std.specs.Prelude.{ℕ}

-- the greatest number of a part
abbrev pub most_parts : ℕ
most_parts = 10000
