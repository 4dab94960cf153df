use Rattle.vote_core.proofs.Resting.{fresh_ballot_stays, fresh_change_stays}
use Rattle.vote_core.proofs.Meeting.{above_last_is_fresh}
use Rattle.vote_core.proofs.laws.fresh_laws.Goals as goal

pub returns-clause-ballot : goal.returns-clause-ballot
returns-clause-ballot c = fresh_ballot_stays

pub returns-clause-change : goal.returns-clause-change
returns-clause-change c = fresh_change_stays

pub returns-clause-above : goal.returns-clause-above
returns-clause-above c = above_last_is_fresh
