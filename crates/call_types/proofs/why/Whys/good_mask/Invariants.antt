use Rattle.call_types.proofs.GoodLemmas.{Served}
use Rattle.call_types.proofs.MaskLemmas.{MaskSoFar}
use Rattle.call_types.proofs.why.Whys.good_mask.Given as goal

abbrev pub invariant-loop-k : goal.invariant-loop-k
invariant-loop-k l = MaskSoFar (Served l.self) l.k l.mask
