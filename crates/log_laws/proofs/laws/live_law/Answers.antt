use Rattle.log_laws.proofs.LiveFileLemmas.{live_files_stay, named_files_stay}
use Rattle.log_laws.proofs.laws.live_law.Goals as goal

pub returns-clause-live : goal.returns-clause-live
returns-clause-live g c = live_files_stay g.D.Drive g.T.Teller.takes g.T.Teller.breaks

pub returns-clause-named : goal.returns-clause-named
returns-clause-named g c = named_files_stay g.D.Drive g.T.Teller.takes g.T.Teller.breaks
