use Rattle.drill_steps.proofs.WorldLemmas.{worlds_go_on}
use Rattle.drill_steps.proofs.laws.world_law.Goals as goal

pub returns : goal.returns
returns g c = worlds_go_on g.D.Drive g.T.Teller.takes g.T.Teller.breaks g.O.Op
    c.data_law.ensures.log c.history_law.ensures c.claim_laws.ensures.come c.claim_laws.ensures.go c.trouble_law.ensures
    c.showing_laws.ensures.stay c.showing_laws.ensures.all
