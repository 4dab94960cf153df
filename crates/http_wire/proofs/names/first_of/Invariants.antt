use Rattle.std.proofs.Common.{ℕ, ◌<◌}
use Rattle.http_wire.specs.Names.{IsNamed, line}
use Rattle.http_wire.proofs.names.first_of.Given as goal

abbrev pub invariant-loop-i : goal.invariant-loop-i
invariant-loop-i l = (k : ℕ) → k < l.i → IsNamed l.name (line l.head.lines k).0 → ⊥
