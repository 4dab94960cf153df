-- The loose names of a lane's files.
use Rattle.std.specs.Prelude.{ℕ, List, ◌++◌, codes, drop}
use Rattle.std.specs.Int.{w64, to_be_bytes}
use Rattle.hex.specs.Hex.{encode_lower}

-- a `w`, the term in 12 hex digits and the number in 16
abbrev pub loose_name : ℕ → ℕ → List ℕ
loose_name term number = codes "w" ++ encode_lower (drop 2 (to_be_bytes w64 term)) ++ encode_lower (to_be_bytes w64 number)
