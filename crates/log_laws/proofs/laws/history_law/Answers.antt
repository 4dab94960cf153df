use Rattle.log_laws.proofs.HistoryLemmas.{history_runs}
use Rattle.log_laws.proofs.laws.history_law.Goals as goal

pub returns : goal.returns
returns g c = history_runs g.D.Drive g.T.Teller.takes g.T.Teller.breaks
