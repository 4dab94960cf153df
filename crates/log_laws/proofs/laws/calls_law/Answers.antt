use Rattle.log_laws.proofs.CallingLemmas.{calls_keep}
use Rattle.log_laws.proofs.laws.calls_law.Goals as goal

pub returns : goal.returns
returns g c set = calls_keep g.D.Drive set
