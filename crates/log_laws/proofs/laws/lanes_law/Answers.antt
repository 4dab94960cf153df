use Rattle.log_laws.proofs.HealthyLemmas.{healthy_keep}
use Rattle.log_laws.proofs.laws.lanes_law.Goals as goal

pub returns : goal.returns
returns g c = healthy_keep g.D.Drive
