use Rattle.slot_history.proofs.RestLemmas.{drawing_stands, flights_begin, flights_end}
use Rattle.slot_history.proofs.laws.resting_laws.Goals as goal

pub returns-clause-drawing : goal.returns-clause-drawing
returns-clause-drawing c = drawing_stands c.value_laws.ensures.drawing

pub returns-clause-begin : goal.returns-clause-begin
returns-clause-begin c = flights_begin c.value_laws.ensures.drawing

pub returns-clause-end : goal.returns-clause-end
returns-clause-end c = flights_end c.value_laws.ensures.drawing
