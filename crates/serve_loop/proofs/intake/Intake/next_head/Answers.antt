use Rattle.std.proofs.Common.{arith}
use Rattle.http_wire.specs.Seen.{seen}
use Rattle.http_wire.specs.Taking.{source_view}
use Rattle.serve_loop.specs.Seen.{from_of}
use Rattle.serve_loop.proofs.HeadLemmas.{last_answered}
use Rattle.serve_loop.proofs.intake.Intake.next_head.Goals as goal

-- src/intake.rt:47:9
pub invariant_of-self : goal.invariant_of-self
invariant_of-self g c = record {
  within = omega (arith, c.body_left-self.ensures);
  last = last_answered c.next_head-answer.result c.args.self.now.wire.window (from_of c.args.self.now)
      (source_view g.S.Source c.next_head-answer.new.self.source) (seen c.next_head-answer.new.self) _ _ c.args.self.now.last
      (c.next_head-answer.ensures.answers c.requires.passes);
}
