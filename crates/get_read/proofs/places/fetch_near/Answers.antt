use Rattle.std.proofs.Common.{◌∙◌, length, ap, inl, inr}
use Rattle.get_read.specs.declared.state.PartWork.{PartWork}
use Rattle.get_read.proofs.HeldLemmas.{count_held}
use Rattle.get_read.proofs.places.fetch_near.Goals as goal

pub fetch_of-requires-clause-tables : goal.fetch_of-requires-clause-tables
fetch_of-requires-clause-tables c = elim c.in_ok-next.ensures.held [
  | inl within ↦ ap (λ (w : PartWork). length w.tables.items) within.1 ∙ c.requires.tables
  | inr past ↦ count_held c.in_ok-next.next.tables.items c.args.asked.wanted.set.drives past.1
]
