use Rattle.register_core.proofs.RefusalLemmas.{RefusedSoFar}
use Rattle.register_core.proofs.looks.refuse.Given as goal

abbrev pub invariant-loop-k : goal.invariant-loop-k
invariant-loop-k l = RefusedSoFar l.files l.content l.place l.fn.whys l.refused l.k
