use Rattle.slot_history.proofs.AgainLemmas.{again_stands}
use Rattle.slot_history.proofs.laws.pending_law.Goals as goal

pub returns : goal.returns
returns c = again_stands c.value_laws.ensures.drawing c.calm_laws.ensures.fresh
