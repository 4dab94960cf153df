use Rattle.std.proofs.Common.{◌≡◌}
use Rattle.poly_code.specs.Lagrange.{differences}
use Rattle.poly_code.proofs.weight.differences_from.Given as goal

abbrev pub invariant-loop-index : goal.invariant-loop-index
invariant-loop-index l = l.product ≡ differences l.rows l.skipped l.point l.index
