use Rattle.std.proofs.Common.{◌≡◌, ◌<◌, ℕ}
use Rattle.call_types.specs.declared.why.Why.TheVariants.{Good}
use Rattle.term_gate.specs.Reading.{why_at}
use Rattle.term_gate.proofs.deciding.are_good.Given as goal

-- the letters so far are good
abbrev pub invariant-loop-index : goal.invariant-loop-index
invariant-loop-index l = (k : ℕ) → k < l.index → why_at l.whys k ≡ Good
