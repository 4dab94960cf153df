use Rattle.ostore.proofs.RunLemmas.{closed_slot}
use Rattle.ostore.proofs.laws.slot_law.Goals as goal

pub returns : goal.returns
returns g c = closed_slot g.A.Audit.entries g.A.Audit.count g.D.Drive.tells g.D.Drive.files c.open_law.ensures.opened
