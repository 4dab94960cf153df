use Rattle.slot_data.proofs.SetLemmas.{out_may_change}
use Rattle.slot_data.proofs.laws.out_law.Goals as goal

pub returns : goal.returns
returns c = out_may_change
