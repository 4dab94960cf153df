use Rattle.drill_steps.proofs.LineLemmas.{lines_are_turns}
use Rattle.drill_steps.proofs.laws.line_law.Goals as goal

pub returns : goal.returns
returns g c = lines_are_turns g.D.Drive g.A.Audit.entries g.A.Audit.count g.T.Teller.takes g.T.Teller.breaks g.O.Op
