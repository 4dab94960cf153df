use Rattle.store_shared.proofs.SharedLemmas.{shared_alone}
use Rattle.store_shared.proofs.shared_desk.SharedDeskOpDesk.told_alone.Goals as goal

pub returns : goal.returns
returns g c = shared_alone g.D.Drive g.A.Audit.entries g.A.Audit.count
