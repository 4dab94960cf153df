use Rattle.std.proofs.Common.{◌≡◌, ◌<◌, ℕ}
use Rattle.std.specs.Prelude.{◌↔◌}
use Rattle.std.specs.Int.{IsBitSet}
use Rattle.call_types.specs.declared.why.FileKind.TheVariants.{Format}
use Rattle.call_types.specs.declared.why.Why.TheVariants.{Lacks}
use Rattle.term_gate.specs.Reading.{why_at}
use Rattle.term_gate.proofs.deciding.absent_of.Given as goal

-- the mask has those of the drives so far that showed no format
abbrev pub invariant-loop-index : goal.invariant-loop-index
invariant-loop-index l = (k : ℕ) → IsBitSet l.absent k ↔ ((k < l.index) × (why_at l.whys k ≡ Lacks Format))
