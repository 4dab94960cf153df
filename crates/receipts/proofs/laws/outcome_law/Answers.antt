use Rattle.receipts.proofs.OutcomeLemmas.{cut_changes_nothing, outcomes_are_one}
use Rattle.receipts.proofs.TriedLemmas.{pay_is_told}
use Rattle.receipts.proofs.laws.outcome_law.Goals as goal

pub returns-clause-one : goal.returns-clause-one
returns-clause-one c = outcomes_are_one

pub returns-clause-cut : goal.returns-clause-cut
returns-clause-cut c = cut_changes_nothing

pub returns-clause-told : goal.returns-clause-told
returns-clause-told c = pay_is_told
