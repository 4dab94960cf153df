-- The limits of a manifest.
use Rattle.std.specs.Prelude.{ℕ}

-- the most parts of a body
abbrev pub most_parts : ℕ
most_parts = 10000

-- the greatest length of a part: 5 GiB
abbrev pub most_part_bytes : ℕ
most_part_bytes = 5368709120
