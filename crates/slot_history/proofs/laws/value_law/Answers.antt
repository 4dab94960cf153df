use Rattle.slot_history.proofs.ValueLemmas.{value_stands}
use Rattle.slot_history.proofs.laws.value_law.Goals as goal

pub returns : goal.returns
returns c = value_stands c.value_laws.ensures.drawing
