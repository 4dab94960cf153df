use Rattle.std.proofs.Common.{ap}
use Rattle.http_wire.specs.Answers.{Wired}
use Rattle.http_wire.specs.Seen.{seen}
use Rattle.http_wire.specs.Taking.{source_view}
use Rattle.serve_loop.specs.Seen.{from_of, wire_of}
use Rattle.serve_loop.proofs.IntakeLemmas.{last_body, part_gave, within_body}
use Rattle.serve_loop.proofs.intake.IntakeFeed.take.Goals as goal

pub invariant_of-self : goal.invariant_of-self
invariant_of-self g c =
    let gives = c.body.ensures.answers (ap (λ (w : Wired). w.refused) c.retry.ensures.lifted) in
    record {
      within = within_body c.body.result c.args.self.now.stated _ (wire_of c.args.self.now) (seen c.retry.new.self) (seen c.body.new.self) _ _ _ _
          c.retry.ensures.lifted c.args.self.now.within gives;
      last = last_body c.body.result _ (wire_of c.args.self.now) (seen c.retry.new.self) (seen c.body.new.self) (from_of c.args.self.now)
          (source_view g.S.Source c.retry.new.self.source) (source_view g.S.Source c.body.new.self.source) _ _ c.retry.ensures.lifted
          (ap (source_view g.S.Source) c.retry.ensures.same) c.args.self.now.last gives;
    }

-- src/intake.rt:87:5
pub returns-in-Ok-clause-gives : goal.returns-in-Ok-clause-gives
returns-in-Ok-clause-gives g c =
    part_gave _ _ _ (wire_of c.args.self.now) (seen c.retry.new.self) (seen c.body.new.self)
    (from_of c.args.self.now) (source_view g.S.Source c.retry.new.self.source) (source_view g.S.Source c.body.new.self.source) _ _ c.retry.ensures.lifted
    (ap (source_view g.S.Source) c.retry.ensures.same) c.args.self.now.within c.args.self.now.last
    (c.in-Ok.ensures.answers (ap (λ (w : Wired). w.refused) c.retry.ensures.lifted))
