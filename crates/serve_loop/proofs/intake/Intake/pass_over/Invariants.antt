use Rattle.std.proofs.Common.{◌≡◌}
use Rattle.serve_loop.specs.Seen.{from_of, wire_of}
use Rattle.serve_loop.proofs.IntakeLemmas.{PassedSoFar}
use Rattle.serve_loop.proofs.intake.Intake.pass_over.Given as goal

-- some of the rest was passed over
abbrev pub invariant-loop-piece : goal.invariant-loop-piece
invariant-loop-piece g l = record {
  so_far : PassedSoFar (wire_of l.fn.self) (wire_of l.self) (from_of l.fn.self) (from_of l.self)
      (g.S.Source.faults l.fn.self.wire.source) (g.S.Source.faults l.self.wire.source);
  same : l.self.stated ≡ l.fn.self.stated;
}

-- what is left of the body
abbrev pub decreases-loop-piece : goal.decreases-loop-piece
decreases-loop-piece g l = l.self.wire.body_left
