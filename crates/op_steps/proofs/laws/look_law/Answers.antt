use Rattle.op_steps.proofs.LookLemmas.{look_is_turn}
use Rattle.op_steps.proofs.laws.look_law.Goals as goal

pub returns : goal.returns
returns g c = look_is_turn g.D.Drive
