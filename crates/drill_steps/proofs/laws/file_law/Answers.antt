use Rattle.drill_steps.proofs.FileLemmas.{world_keeps_files}
use Rattle.drill_steps.proofs.laws.file_law.Goals as goal

pub returns : goal.returns
returns g c = world_keeps_files g.D.Drive g.T.Teller.takes g.T.Teller.breaks g.O.Op c.live_law.ensures.live
