use Rattle.op_steps.proofs.NamesLemmas.{names_is_turn}
use Rattle.op_steps.proofs.laws.names_law.Goals as goal

pub returns : goal.returns
returns g c = names_is_turn g.D.Drive
