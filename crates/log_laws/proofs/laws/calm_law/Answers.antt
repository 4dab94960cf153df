use Rattle.log_laws.proofs.CalmLogLemmas.{calm_reads}
use Rattle.log_laws.proofs.HistoryLemmas.{history_runs}
use Rattle.log_laws.proofs.laws.calm_law.Goals as goal

pub returns : goal.returns
returns g c = calm_reads g.D.Drive g.T.Teller.takes g.T.Teller.breaks (history_runs g.D.Drive g.T.Teller.takes g.T.Teller.breaks)
