use Rattle.slot_core.proofs.OpenLemmas.{fresh_stands, opened_stands}
use Rattle.slot_core.proofs.life.open_law.Goals as goal

pub returns-clause-opened : goal.returns-clause-opened
returns-clause-opened g c = opened_stands g.A.Audit.entries g.A.Audit.count g.D.Drive.tells g.D.Drive.files

pub returns-clause-fresh : goal.returns-clause-fresh
returns-clause-fresh g c = fresh_stands g.A.Audit.entries g.A.Audit.count g.D.Drive.tells g.D.Drive.files c.fresh_law.ensures
