use Rattle.store_shared.proofs.TroubleLemmas.{struck_is_troubled}
use Rattle.store_shared.proofs.laws.trouble_law.Goals as goal

pub returns : goal.returns
returns g c = struck_is_troubled g.D.Drive g.A.Audit.entries g.A.Audit.count g.T.Trouble.befalls
