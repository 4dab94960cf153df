use Rattle.slot_data.proofs.GoneLemmas.{gone_ids_are_gone}
use Rattle.slot_data.proofs.LaneLemmas.{own_makes_data, own_waits_data}
use Rattle.slot_data.proofs.laws.own_data_laws.Goals as goal

pub returns-clause-waits : goal.returns-clause-waits
returns-clause-waits c = own_waits_data

pub returns-clause-makes : goal.returns-clause-makes
returns-clause-makes c = own_makes_data

pub returns-clause-gone : goal.returns-clause-gone
returns-clause-gone c = gone_ids_are_gone
