use Rattle.slot_history.proofs.RestLemmas.{fresh_stands}
use Rattle.slot_history.proofs.laws.fresh_law.Goals as goal

pub returns : goal.returns
returns c = fresh_stands c.calm_laws.ensures.fresh c.state_laws.ensures.injective c.row_laws.ensures.injective
