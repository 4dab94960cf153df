-- The limit of the parts of an upload.
use Rattle.std.specs.Prelude.{ℕ}

-- the least length of a part that isn't the last: 5 MiB
abbrev pub part_least : ℕ
part_least = 5242880
