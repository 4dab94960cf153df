use Rattle.store_shared.proofs.LawLemmas.{answer_is_call}
use Rattle.store_shared.proofs.laws.answers_law.Goals as goal

pub returns : goal.returns
returns g c = answer_is_call g.D.Drive g.A.Audit.entries g.A.Audit.count
