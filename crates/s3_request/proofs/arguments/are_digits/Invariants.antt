use Rattle.std.proofs.Common.{ℕ, ◌<◌, slice_index}
use Rattle.std.specs.Int.{IsInRange}
use Rattle.s3_request.proofs.arguments.are_digits.Given as goal

abbrev pub invariant-loop-byte : goal.invariant-loop-byte
invariant-loop-byte l = (k : ℕ) → k < l.byte-index → IsInRange 48 57 (slice_index l.text k)
