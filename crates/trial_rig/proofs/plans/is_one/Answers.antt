use Rattle.std.proofs.Common.{IsTrue}
use Rattle.trial_rig.proofs.PlanEq.{one_plan}
use Rattle.trial_rig.proofs.plans.is_one.Goals as goal

pub returns : goal.returns
returns c = λ t. one_plan c.args.one.now c.args.other.now (c.has_same.ensures.id t) (c.has_same.ensures.drives t) (c.has_same.ensures.parity t) (c.has_same.ensures.out t)
