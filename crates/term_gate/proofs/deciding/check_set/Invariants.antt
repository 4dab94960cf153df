use Rattle.term_gate.specs.Deciding.{AreOf}
use Rattle.term_gate.proofs.deciding.check_set.Given as goal

-- the formats so far are those of their drives
abbrev pub invariant-loop-index : goal.invariant-loop-index
invariant-loop-index l = AreOf l.set l.index l.formats
