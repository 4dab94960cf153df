use Rattle.store_shared.proofs.HolderStruckLemmas.{struck_rig_holds}
use Rattle.store_shared.proofs.laws.struck_law.Goals as goal

pub returns : goal.returns
returns g c = struck_rig_holds g.D.Drive g.row.A.Denot c.out_law.ensures c.fresh_data_law.ensures.drawn
