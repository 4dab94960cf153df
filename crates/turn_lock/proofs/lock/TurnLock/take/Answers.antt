use Rattle.std.proofs.Common.{rules, ap, sym, ◌∙◌, ◌∷◌, Some}
use Rattle.atomic_table.specs.Table.{rest}
use Rattle.turn_lock.proofs.lock.TurnLock.take.Goals as goal

pub exchange-requires : goal.exchange-requires
exchange-requires g c = let t = c.wait.ensures.lent in let has = ap (λ m. m.1) t.1 in (search rules, (Some t.0, has ∙ ap (λ l. (0, Some t.0) ∷ rest l) (sym has)))
