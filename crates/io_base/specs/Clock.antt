-- The moments that a clock tells.
use Rattle.std.specs.Prelude.{ℕ}

-- the first second, since 1970, of the year 10000: each moment is before it
abbrev pub year_10000 : ℕ
year_10000 = 253402300800
