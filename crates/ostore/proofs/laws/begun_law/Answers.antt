use Rattle.ostore.proofs.ServedBeginLemmas.{serves_begin}
use Rattle.ostore.proofs.laws.begun_law.Goals as goal

pub returns : goal.returns
returns g c = serves_begin _ _ _ g.D.Drive g.D.Share.root g.A.Audit.entries g.A.Audit.count _ _ _ c.opened_law.ensures.opened
