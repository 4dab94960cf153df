use Rattle.slot_data.proofs.RowLemmas.{flights_are_found, pins_are_found}
use Rattle.slot_data.proofs.rows.row_laws.Goals as goal

pub returns-clause-flights : goal.returns-clause-flights
returns-clause-flights c = flights_are_found

pub returns-clause-pins : goal.returns-clause-pins
returns-clause-pins c = pins_are_found
