use Rattle.register_core.proofs.WrittenLemmas.{WrittenSoFar}
use Rattle.register_core.proofs.mends.count_written.Given as goal

abbrev pub invariant-loop-k : goal.invariant-loop-k
invariant-loop-k l = WrittenSoFar l.passed l.whys l.k l.count
