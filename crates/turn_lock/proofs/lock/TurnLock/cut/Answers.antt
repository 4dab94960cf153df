use Rattle.std.proofs.Common.{rules, arith}
use Rattle.turn_lock.proofs.Moves.{splits}
use Rattle.turn_lock.proofs.lock.TurnLock.cut.Goals as goal

pub split_seat-other-requires : goal.split_seat-other-requires
split_seat-other-requires g c = (search rules, search rules, splits g.T.Turned.turn g.T.Turned.name _ _ _ g.A.Amount.amount (omega (arith, c.requires.1, c.requires.3)) (omega (arith, c.requires.2, c.requires.3, c.args.pass.view_is.0)))
