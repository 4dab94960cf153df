use Rattle.log_laws.proofs.GetOwesLemmas.{gets_go_on, gets_lack_nothing}
use Rattle.op_steps.specs.Store.{any_effect}
use Rattle.log_laws.proofs.laws.get_law.Goals as goal

pub returns-clause-go_on : goal.returns-clause-go_on
returns-clause-go_on g c = gets_go_on g.D.Drive any_effect any_effect

pub returns-clause-none : goal.returns-clause-none
returns-clause-none g c = gets_lack_nothing g.D.Drive any_effect any_effect
