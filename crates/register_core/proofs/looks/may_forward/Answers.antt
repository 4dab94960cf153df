use Rattle.std.proofs.Common.{refl, arith}
use Rattle.register_core.proofs.looks.may_forward.Goals as goal

pub returns-in-Undecided-clause-outcome : goal.returns-in-Undecided-clause-outcome
returns-in-Undecided-clause-outcome g c = (
  refl,
  refl,
  record {
    adds = c.in-Some.adds;
    adds_is = c.in-Some.is;
    looked_for = c.in_ok-whys.ensures.letters;
    few = (let few = c.in-Undecided.ensures.1 in omega (arith, few, c.good.ensures));
  },
)
