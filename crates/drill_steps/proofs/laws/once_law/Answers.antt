use Rattle.drill_steps.proofs.LifeLemmas.{changes_apply_once}
use Rattle.drill_steps.proofs.laws.once_law.Goals as goal

pub returns : goal.returns
returns c = changes_apply_once c.showing_laws.ensures.runs c.run_laws.ensures.lawful c.run_laws.ensures.once
