use Rattle.drive_base.proofs.SetLemmas.{large_sets_meet, smaller_sets_count_less, one_more_counts_one, others_are_the_rest}
use Rattle.drive_base.proofs.drive_set.drive_set_laws.Goals as goal

-- src/drive_set.rt:96:1
pub returns-clause-meet : goal.returns-clause-meet
returns-clause-meet c = large_sets_meet

-- src/drive_set.rt:96:1
pub returns-clause-within : goal.returns-clause-within
returns-clause-within c = smaller_sets_count_less

-- src/drive_set.rt:96:1
pub returns-clause-more : goal.returns-clause-more
returns-clause-more c = one_more_counts_one

-- src/drive_set.rt:96:1
pub returns-clause-rest : goal.returns-clause-rest
returns-clause-rest c = others_are_the_rest
