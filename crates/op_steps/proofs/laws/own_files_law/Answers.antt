use Rattle.op_steps.proofs.OwnFileLemmas.{own_calls_keep_others, own_calls_lose_own_files}
use Rattle.op_steps.proofs.laws.own_files_law.Goals as goal

pub returns-clause-others : goal.returns-clause-others
returns-clause-others c = own_calls_keep_others

pub returns-clause-own : goal.returns-clause-own
returns-clause-own c = own_calls_lose_own_files
