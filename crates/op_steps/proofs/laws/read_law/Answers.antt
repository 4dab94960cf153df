use Rattle.op_steps.proofs.LookLemmas.{read_is_call}
use Rattle.op_steps.proofs.laws.read_law.Goals as goal

pub returns : goal.returns
returns c = read_is_call
