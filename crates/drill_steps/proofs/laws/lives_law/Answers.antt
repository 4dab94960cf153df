use Rattle.drill_steps.proofs.LifeLemmas.{lives_go_on}
use Rattle.drill_steps.proofs.laws.lives_law.Goals as goal

pub returns : goal.returns
returns g c = lives_go_on g.D.Drive g.A.Audit.entries g.A.Audit.count g.T.Teller.takes g.T.Teller.breaks g.O.Op c.opened_law.ensures.opened
    c.opened_law.ensures.tried c.opened_law.ensures.closed c.struck_law.ensures c.opened_law.ensures.kept c.pass_law.ensures c.world_law.ensures
    c.data_law.ensures.files c.showing_laws.ensures.join
