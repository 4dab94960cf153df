use Rattle.vote_core.proofs.Marking.{mark_keeps, mark_settles}
use Rattle.vote_core.proofs.laws.mark_laws.Goals as goal

pub returns-clause-any : goal.returns-clause-any
returns-clause-any c = mark_keeps

pub returns-clause-enough : goal.returns-clause-enough
returns-clause-enough c = mark_settles
