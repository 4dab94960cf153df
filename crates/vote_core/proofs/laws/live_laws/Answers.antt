use Rattle.vote_core.proofs.Meeting.{live_is, live_is_old_or_own, mark_leaves_none_live}
use Rattle.vote_core.proofs.laws.live_laws.Goals as goal

pub returns-clause-is : goal.returns-clause-is
returns-clause-is c = live_is

pub returns-clause-old_or_own : goal.returns-clause-old_or_own
returns-clause-old_or_own c = live_is_old_or_own

pub returns-clause-marked : goal.returns-clause-marked
returns-clause-marked c = mark_leaves_none_live
