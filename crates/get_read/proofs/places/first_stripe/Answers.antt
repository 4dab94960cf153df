use Rattle.get_read.proofs.HeldLemmas.{count_held}
use Rattle.get_read.proofs.places.first_stripe.Goals as goal

pub fetch_of-requires-clause-tables : goal.fetch_of-requires-clause-tables
fetch_of-requires-clause-tables c = count_held c.in_ok-part.part.tables.items c.args.asked.wanted.set.drives c.in_ok-part.ensures.none
