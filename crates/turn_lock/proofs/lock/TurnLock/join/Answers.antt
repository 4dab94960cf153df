use Rattle.std.proofs.Common.{rules, arith}
use Rattle.turn_lock.proofs.Moves.{joins, weighs}
use Rattle.turn_lock.proofs.lock.TurnLock.join.Goals as goal

pub join_seat-requires : goal.join_seat-requires
join_seat-requires g c = (search rules, search rules, search rules, search rules, joins g.T.Turned.turn g.T.Turned.name _ _ _ _ _ (omega (arith, c.args.one.view_is.0, c.args.one.some_part.0)) (omega (arith, c.args.other.view_is.0, c.args.other.some_part.0)) c.args.other.at_rest.0 c.args.other.at_rest.1)

pub load-requires : goal.load-requires
load-requires g c = (search rules, search rules, weighs g.T.Turned.turn g.T.Turned.name _ _ _ _)
