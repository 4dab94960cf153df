-- Blocks of one width that stand one after another, read across.
use Rattle.std.specs.Prelude.{◌≡◌, ℕ, ◌+◌, ◌*◌, List, map, slice_index}
use Rattle.std.specs.List.{range_with_len}

-- byte k of block i
abbrev pub byte_of_block : ℕ → ℕ → List ℕ → ℕ → ℕ
byte_of_block width k blocks i = slice_index blocks (i * width + k)

-- byte k of each of so many blocks
abbrev pub column : ℕ → ℕ → ℕ → List ℕ → List ℕ
column count width k blocks = map (byte_of_block width k blocks) (range_with_len 0 count)
