use Rattle.std.proofs.Common.{◌*◌}
use Rattle.code_lanes.specs.Sums.{AreAdded}
use Rattle.code_lanes.proofs.onto.mul_strips.Given as goal

abbrev pub invariant-loop-index : goal.invariant-loop-index
invariant-loop-index l = AreAdded l.by 0 (32 * l.index) l.from l.fn.onto l.onto
