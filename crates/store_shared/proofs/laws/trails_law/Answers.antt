use Rattle.store_shared.proofs.TrailLemmas.{plain_trails, shared_trails}
use Rattle.store_shared.proofs.laws.trails_law.Goals as goal

pub returns-clause-plain : goal.returns-clause-plain
returns-clause-plain g c = plain_trails g.D.Drive g.A.Audit.entries g.A.Audit.count

pub returns-clause-shared : goal.returns-clause-shared
returns-clause-shared g c = shared_trails g.D.Drive g.A.Audit.entries g.A.Audit.count
