-- The limits of a key's state.
use Rattle.std.specs.Prelude.{ℕ}

-- the most versions of a key
abbrev pub most_versions : ℕ
most_versions = 10000

-- the most open uploads of a key
abbrev pub most_uploads : ℕ
most_uploads = 1000

-- the most bytes of a content type
abbrev pub longest_kind : ℕ
longest_kind = 255

-- the first second, since 1970, of the year 10000: each moment is before it
abbrev pub moment_limit : ℕ
moment_limit = 253402300800

-- the most parts of an upload
abbrev pub most_parts : ℕ
most_parts = 10000
