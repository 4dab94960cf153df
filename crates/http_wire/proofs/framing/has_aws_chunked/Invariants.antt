use Rattle.std.proofs.Common.{ℕ, ◌+◌, ◌<◌, codes, slice_range}
use Rattle.http_wire.specs.Names.{IsNamed}
use Rattle.http_wire.proofs.framing.has_aws_chunked.Given as goal

abbrev pub invariant-loop-i : goal.invariant-loop-i
invariant-loop-i l = (k : ℕ) → k < l.i → IsNamed (codes "aws-chunked") (slice_range l.value k (k + 11)) → ⊥
