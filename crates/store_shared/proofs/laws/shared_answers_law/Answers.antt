use Rattle.store_shared.proofs.RiseLemmas.{answers_have_turns}
use Rattle.store_shared.proofs.laws.shared_answers_law.Goals as goal

pub returns : goal.returns
returns g c = answers_have_turns g.D.Drive g.A.Audit.entries g.A.Audit.count
