use Rattle.op_steps.proofs.CommitLemmas.{commit_is_turn}
use Rattle.op_steps.proofs.laws.commit_law.Goals as goal

pub returns : goal.returns
returns g c = commit_is_turn g.D.Drive
