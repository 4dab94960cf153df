-- The limit of a bucket's record.
use Rattle.std.specs.Prelude.{ℕ}

-- the first second, since 1970, of the year 10000: each moment is before it
abbrev pub moment_limit : ℕ
moment_limit = 253402300800
