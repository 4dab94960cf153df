use Rattle.std.proofs.Common.{rules, ap, ◌∙◌, refl, arith}
use Rattle.turn_lock.specs.Views.{looked}
use Rattle.turn_lock.proofs.Moves.{looks, draws}
use Rattle.turn_lock.proofs.lock.TurnLock.draw.Goals as goal

pub load-next-requires : goal.load-next-requires
load-next-requires g c = (search rules, search rules, looks g.T.Turned.turn g.T.Turned.name _ _ _ _)

pub compare_exchange-requires : goal.compare_exchange-requires
compare_exchange-requires g c = let same = ap (λ m. looked 0 m.0) c.load-next.ensures.2.0 ∙ c.loop.invariant.2 in
    (search rules, search rules, draws g.T.Turned.turn g.T.Turned.name _ _ _ _ _ _ refl (omega (arith, ap (λ v. v.parts) same, c.requires.seat.1)) (ap (λ v. v.ticket) same ∙ c.requires.seat.2))
