use Rattle.std.proofs.Common.{rules}
use Rattle.turn_lock.proofs.Moves.{serves}
use Rattle.turn_lock.proofs.lock.TurnLock.wait.Goals as goal

pub load-serving-requires : goal.load-serving-requires
load-serving-requires g c = (search rules, search rules, serves g.T.Turned.turn g.T.Turned.name _ _ _ _ c.args.ticket (search rules) (search rules))
