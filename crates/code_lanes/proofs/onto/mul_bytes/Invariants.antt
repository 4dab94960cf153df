use Rattle.code_lanes.specs.Sums.{AreAdded}
use Rattle.code_lanes.proofs.onto.mul_bytes.Given as goal

abbrev pub invariant-loop-k : goal.invariant-loop-k
invariant-loop-k l = AreAdded l.by l.at l.k l.from l.fn.onto l.onto
