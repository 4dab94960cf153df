use Rattle.term_gate.specs.Deciding.{IsTopBelow}
use Rattle.term_gate.proofs.deciding.top_of.Given as goal

-- the greatest term so far
abbrev pub invariant-loop-format : goal.invariant-loop-format
invariant-loop-format l = IsTopBelow l.format-index l.formats l.top
