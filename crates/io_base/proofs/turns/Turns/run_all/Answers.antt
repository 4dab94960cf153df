use Rattle.std.proofs.Common.{◌≤◌, inl, refl, subst}
use Rattle.fault_base.specs.Counts.{last_count}
use Rattle.io_base.proofs.Turning.{RunsInTurn-counted}
use Rattle.io_base.proofs.Works.{Apart-left}
use Rattle.io_base.proofs.turns.Turns.run_all.Goals as goal

pub returns-in_default-clause-apart : goal.returns-in_default-clause-apart
returns-in_default-clause-apart g c =
    Apart-left g.W.Work.kept c.args.works.items c.new.result.items c.args.works.items c.new.ensures.items refl

pub take_each-requires-clause-counts : goal.take_each-requires-clause-counts
take_each-requires-clause-counts g c κs within = (
  subst (λ t. t.begun ≤ last_count) c.self.view_is c.self.invariant.0,
  subst (λ t. t.faults ≤ last_count) c.self.view_is c.self.invariant.1,
)

pub returns-clause-counted : goal.returns-clause-counted
returns-clause-counted g c = RunsInTurn-counted g.W.Work.kept c.args.self.now c.take_each.new.self c.args.works.items
    c.take_each.result.done.items c.take_each.result.left.items
    (subst (λ t. t.faults ≤ last_count) c.self.view_is c.self.invariant.1) (inl c.take_each.ensures.took)
