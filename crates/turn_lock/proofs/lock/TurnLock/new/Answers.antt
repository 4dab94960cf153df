use Rattle.std.proofs.Common.{rules, ap, sym, ◌∙◌, ◌∷◌, [], Some}
use Rattle.turn_lock.proofs.Moves.{starts}
use Rattle.turn_lock.proofs.lock.TurnLock.new.Goals as goal

pub new-requires : goal.new-requires
new-requires g c = starts g.T.Turned.turn g.T.Turned.name c.of-about.result.value _ _ (c.turns-turns.ensures ∙ ap g.T.Turned.turn (sym c.of-about.ensures))
    ((search rules) ∙ ap (λ value. Some value ∷ []) (sym c.of-about.ensures))
