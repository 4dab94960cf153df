use Rattle.slot_data.proofs.RemovedLemmas.{taken_is_removed}
use Rattle.slot_data.proofs.disk_laws.removed_law.Goals as goal

pub returns : goal.returns
returns c = taken_is_removed
