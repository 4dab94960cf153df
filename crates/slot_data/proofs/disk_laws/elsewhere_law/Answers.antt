use Rattle.slot_data.proofs.ElsewhereLemmas.{elsewhere_is_written}
use Rattle.slot_data.proofs.disk_laws.elsewhere_law.Goals as goal

pub returns : goal.returns
returns c = elsewhere_is_written
