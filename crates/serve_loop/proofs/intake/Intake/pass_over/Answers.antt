use Rattle.std.proofs.Common.{◌∙◌}
use Rattle.serve_loop.specs.Seen.{from_of, wire_of}
use Rattle.serve_loop.proofs.IntakeLemmas.{passed_more}
use Rattle.serve_loop.proofs.intake.Intake.pass_over.Goals as goal

-- src/intake.rt:63:9
pub loop-piece-preserved : goal.loop-piece-preserved
loop-piece-preserved g c = record {
  so_far = passed_more _ _ _ _ _ (wire_of c.loop-piece.self) (wire_of c.take.new.self) _ (from_of c.loop-piece.self) (from_of c.take.new.self) _ _ _
      c.loop-piece.self.within c.take.new.self.within c.in_ok-take.ensures.same c.loop-piece.invariant.so_far
      c.in_ok-take.ensures.gives c.in_ok-take.ensures.cause c.in_ok-take.ensures.lifted;
  same = c.in_ok-take.ensures.same ∙ c.loop-piece.invariant.same;
}
