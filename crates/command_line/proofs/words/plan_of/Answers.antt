use Rattle.std.proofs.Common.{◌≡◌, None, Option, Some, refl, ℕ}
use Rattle.command_line.proofs.PlanLemmas.{says_plan, set_said, workers_said}
use Rattle.command_line.proofs.words.plan_of.Goals as goal

pub returns-in_default-set_of-clause-none : goal.returns-in_default-set_of-clause-none
returns-in_default-set_of-clause-none c = λ e plan says. c.in_default-set_of.ensures plan.set (set_said _ c.in-Some.line c.in-Some.ensures plan says)

pub returns-in_default-number_between-clause-none : goal.returns-in_default-number_between-clause-none
returns-in_default-number_between-clause-none c = λ e plan says.
    let bad : ◌≡◌ {A = Option ℕ} None (Some plan.workers) = (c.in_default-number_between.ensures plan.workers).1 (workers_said _ c.in-Some.line c.in-Some.ensures plan says) in
    absurd cc

pub returns-clause-ok : goal.returns-clause-ok
returns-clause-ok c =
    says_plan _ c.in-Some.line c.in-Some.ensures _ refl c.in-Some-set_of.ensures ((c.in-Some-number_between.ensures c.in-Some-number_between.workers).0 refl) c.in_ok-root.ensures c.in_ok-listen.ensures
