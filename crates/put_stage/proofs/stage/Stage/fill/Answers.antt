-- A window is taken, and its blocks are due.
use Rattle.std.proofs.Common.{ap, arith, refl}
use Rattle.put_stage.proofs.FillLemmas.{filled}
use Rattle.drive_base.specs.declared.plan.SetPlan.{SetPlan}
use Rattle.put_stage.proofs.LeftLemmas.{fewer_left}
use Rattle.put_stage.proofs.stage.Stage.fill.Goals as goal

pub returns-clause-takes : goal.returns-clause-takes
returns-clause-takes g c =
    let takes = c.in_ok-take_window.ensures.takes in
    (takes.0, filled c.args.self.now _ takes.0 c.requires.next takes.1 refl c.append_next.ensures, takes.2)

pub returns-clause-fewer : goal.returns-clause-fewer
returns-clause-fewer g c =
    let took = c.in_ok-take_window.ensures.takes.1 in
    fewer_left c.args.self.now _ (ap (λ (set : SetPlan). set.drives) took.task.set) (omega (arith, took.left, took.some))
