use Rattle.std.proofs.Common.{ℕ, ◌<◌}
use Rattle.http_wire.specs.Names.{IsNamed, line}
use Rattle.http_wire.specs.Framing.{ReadsLength, content_length}
use Rattle.http_wire.proofs.framing.said_by_all.Given as goal

abbrev pub invariant-loop-i : goal.invariant-loop-i
invariant-loop-i l =
    (k : ℕ) → k < l.i → IsNamed content_length (line l.head.lines k).0 → ReadsLength (line l.head.lines k).1 l.number
