use Rattle.store_shared.proofs.PlainLemmas.{plain_alone}
use Rattle.store_shared.proofs.plain_desk.PlainDeskOpDesk.told_alone.Goals as goal

pub returns : goal.returns
returns g c = plain_alone g.D.Drive g.A.Audit.entries g.A.Audit.count
