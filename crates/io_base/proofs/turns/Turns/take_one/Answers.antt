use Rattle.std.proofs.Common.{rules, inl, refl}
use Rattle.io_base.proofs.turns.Turns.take_one.Goals as goal

pub returns-then-contains-clause-took : goal.returns-then-contains-clause-took
returns-then-contains-clause-took g c = inl (record {
  listed = search rules;
  done = refl;
  left = c.add.ensures.items;
  after = search rules;
})
