use Rattle.drill_steps.proofs.PutLemmas.{put_ids_rise}
use Rattle.drill_steps.proofs.laws.put_law.Goals as goal

pub returns : goal.returns
returns g c = put_ids_rise g.D.Drive g.T.Teller.takes g.T.Teller.breaks g.O.Op c.history_law.ensures
