use Rattle.std.proofs.Common.{◌*◌}
use Rattle.poly_code.proofs.ValueLemmas.{AreValues}
use Rattle.poly_code.proofs.block.fill_pairs.Given as goal

abbrev pub invariant-loop-pair : goal.invariant-loop-pair
invariant-loop-pair l = AreValues l.rows l.width l.have l.point (2 * l.pair) l.out
