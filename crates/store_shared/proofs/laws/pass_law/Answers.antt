use Rattle.store_shared.proofs.LawLemmas.{pass_in_order}
use Rattle.store_shared.proofs.laws.pass_law.Goals as goal

pub returns : goal.returns
returns g c = pass_in_order g.D.Drive g.A.Audit.entries g.A.Audit.count
