use Rattle.vote_core.proofs.Resting.{calm_settles, mend_stays_calm, fresh_is_calm}
use Rattle.vote_core.proofs.laws.calm_laws.Goals as goal

pub returns-clause-settles : goal.returns-clause-settles
returns-clause-settles c = calm_settles

pub returns-clause-mend : goal.returns-clause-mend
returns-clause-mend c = mend_stays_calm

pub returns-clause-fresh : goal.returns-clause-fresh
returns-clause-fresh c = fresh_is_calm
