use Rattle.call_types.proofs.MaskLemmas.{MaskSoFar}
use Rattle.register_core.proofs.FoundLemmas.{IsClean}
use Rattle.register_core.proofs.looks.clean_of.Given as goal

abbrev pub invariant-loop-k : goal.invariant-loop-k
invariant-loop-k l = MaskSoFar (IsClean l.files l.base) l.k l.mask
