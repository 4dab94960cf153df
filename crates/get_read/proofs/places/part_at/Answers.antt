use Rattle.std.proofs.Common.{ℕ, ap, length, arith}
use Rattle.get_read.proofs.HeldLemmas.{no_bytes, nothing_at}
use Rattle.get_read.proofs.places.part_at.Goals as goal

pub returns-clause-none : goal.returns-clause-none
returns-clause-none c = no_bytes c.in_ok-tables.tables.items c.args.set.now.drives c.in_ok-tables.ensures.count c.in_ok-tables.ensures.empty

pub invariant_of-work : goal.invariant_of-work
invariant_of-work c = record {
  held = λ k some. absurd (omega (arith, some, ap (length {A = ℕ}) (nothing_at c.in_ok-tables.tables.items c.args.set.now.drives k c.in_ok-tables.ensures.count c.in_ok-tables.ensures.empty)));
}
