use Rattle.log_laws.proofs.FileLemmas.{files_keep}
use Rattle.log_laws.proofs.HoldingLemmas.{log_keeps}
use Rattle.log_laws.proofs.StepDataLemmas.{step_data}
use Rattle.log_laws.proofs.HistoryLemmas.{history_runs}
use Rattle.log_laws.proofs.laws.data_law.Goals as goal

pub returns-clause-step : goal.returns-clause-step
returns-clause-step g c = step_data g.D.Drive g.T.Teller.takes g.T.Teller.breaks

pub returns-clause-log : goal.returns-clause-log
returns-clause-log g c = log_keeps g.D.Drive g.T.Teller.takes g.T.Teller.breaks (step_data g.D.Drive g.T.Teller.takes g.T.Teller.breaks)
    (history_runs g.D.Drive g.T.Teller.takes g.T.Teller.breaks)

pub returns-clause-files : goal.returns-clause-files
returns-clause-files g c = files_keep g.D.Drive g.T.Teller.takes g.T.Teller.breaks
