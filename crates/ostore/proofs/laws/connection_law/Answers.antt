use Rattle.ostore.proofs.PipeLemmas.{connections_pipe}
use Rattle.ostore.proofs.laws.connection_law.Goals as goal

pub returns : goal.returns
returns g c =
    connections_pipe g.D.Drive g.A.Audit.entries g.A.Audit.count c.calls_law.ensures c.pass_law.ensures c.answers_law.ensures c.trails_law.ensures.plain
    c.slot_law.ensures
