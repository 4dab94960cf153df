use Rattle.log_laws.proofs.TroubleLemmas.{trouble_keeps}
use Rattle.log_laws.proofs.laws.trouble_law.Goals as goal

pub returns : goal.returns
returns g c = trouble_keeps g.D.Drive
