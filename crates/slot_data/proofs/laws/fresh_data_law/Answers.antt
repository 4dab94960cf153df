use Rattle.slot_data.proofs.FreshLemmas.{fresh_data_stands, life_ends}
use Rattle.slot_data.proofs.HandsLemmas.{numbers_are_drawn}
use Rattle.slot_data.proofs.laws.fresh_data_law.Goals as goal

pub returns-clause-fresh : goal.returns-clause-fresh
returns-clause-fresh c = fresh_data_stands

pub returns-clause-ends : goal.returns-clause-ends
returns-clause-ends c = life_ends

pub returns-clause-drawn : goal.returns-clause-drawn
returns-clause-drawn c = numbers_are_drawn
