use Rattle.slot_data.proofs.PinLemmas.{pin_begins, pin_ends}
use Rattle.slot_data.proofs.laws.pin_laws.Goals as goal

pub returns-clause-begin : goal.returns-clause-begin
returns-clause-begin c = pin_begins

pub returns-clause-end : goal.returns-clause-end
returns-clause-end c = pin_ends
