use Rattle.slot_data.proofs.LaneLemmas.{again_is_late_data, again_stays_data}
use Rattle.slot_data.proofs.ValueLemmas.{value_stays_data}
use Rattle.slot_data.proofs.laws.again_data_laws.Goals as goal

pub returns-clause-stays : goal.returns-clause-stays
returns-clause-stays c = again_stays_data

pub returns-clause-late : goal.returns-clause-late
returns-clause-late c = again_is_late_data

pub returns-clause-value : goal.returns-clause-value
returns-clause-value c = value_stays_data
