use Rattle.turn_lock.proofs.Told.{told}
use Rattle.turn_lock.proofs.laws.history_law.Goals as goal

pub returns : goal.returns
returns g c = told g.T.Turned.turn g.T.Turned.name
