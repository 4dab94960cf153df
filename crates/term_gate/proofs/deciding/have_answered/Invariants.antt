use Rattle.std.proofs.Common.{◌≡◌, ◌⊎◌, ◌<◌, ℕ}
use Rattle.call_types.specs.declared.why.FileKind.TheVariants.{Format}
use Rattle.call_types.specs.declared.why.Why.TheVariants.{Good, Lacks}
use Rattle.term_gate.specs.Reading.{why_at}
use Rattle.term_gate.proofs.deciding.have_answered.Given as goal

-- the drives so far gave a good format or have none
abbrev pub invariant-loop-index : goal.invariant-loop-index
invariant-loop-index l = (k : ℕ) → k < l.index → (why_at l.whys k ≡ Good) ⊎ (why_at l.whys k ≡ Lacks Format)
