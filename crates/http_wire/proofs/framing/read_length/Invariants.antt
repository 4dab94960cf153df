use Rattle.std.proofs.Common.{◌≡◌, ℕ, ◌<◌, ◌^◌, take, slice_index}
use Rattle.std.specs.Str.Parse.{digits_value}
use Rattle.http_wire.specs.Framing.{IsDigit}
use Rattle.http_wire.proofs.framing.read_length.Given as goal

abbrev pub invariant-loop-byte : goal.invariant-loop-byte
invariant-loop-byte l =
    ((k : ℕ) → k < l.byte-index → IsDigit (slice_index l.value k))
    × (l.length ≡ digits_value 10 (take l.byte-index l.value)) × (l.length < 2 ^ 64)
