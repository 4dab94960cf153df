use Rattle.vote_core.proofs.Resting.{prepare_stays_drawn, mark_stays_drawn, mend_stays_drawn}
use Rattle.vote_core.proofs.laws.number_laws.Goals as goal

pub returns-clause-prepare : goal.returns-clause-prepare
returns-clause-prepare c = prepare_stays_drawn

pub returns-clause-mark : goal.returns-clause-mark
returns-clause-mark c = mark_stays_drawn

pub returns-clause-mend : goal.returns-clause-mend
returns-clause-mend c = mend_stays_drawn
