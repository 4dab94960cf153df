use Rattle.stamp_id.proofs.Ranks.{ranks_one_to_one, ranks_in_order}
use Rattle.stamp_id.proofs.order.rank_laws.Goals as goal

pub returns-clause-one : goal.returns-clause-one
returns-clause-one c = ranks_one_to_one

pub returns-clause-order : goal.returns-clause-order
returns-clause-order c = ranks_in_order
