use Rattle.log_laws.proofs.FileLemmas.{files_keep}
use Rattle.log_laws.proofs.HoldingLemmas.{call_keeps}
use Rattle.log_laws.proofs.StepDataLemmas.{step_data}
use Rattle.log_laws.proofs.HistoryLemmas.{history_runs}
use Rattle.op_steps.proofs.TrailLemmas.{logs_are_trails}
use Rattle.op_steps.specs.Store.{any_effect}
use Rattle.log_laws.proofs.laws.call_law.Goals as goal

pub returns-clause-history : goal.returns-clause-history
returns-clause-history g c = history_runs g.D.Drive any_effect any_effect

pub returns-clause-files : goal.returns-clause-files
returns-clause-files g c = files_keep g.D.Drive any_effect any_effect

pub returns-clause-trails : goal.returns-clause-trails
returns-clause-trails g c = logs_are_trails g.D.Drive any_effect any_effect

pub returns-clause-data : goal.returns-clause-data
returns-clause-data g c = call_keeps g.D.Drive any_effect any_effect (step_data g.D.Drive any_effect any_effect)
    (history_runs g.D.Drive any_effect any_effect)
