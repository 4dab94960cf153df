use Rattle.std.proofs.Common.{◌≡◌, true, sym, subst, inr}
use Rattle.call_types.specs.Good.{IsGoodMask}
use Rattle.term_gate.proofs.opening.make_set.Goals as goal

pub returns-then-not-are_good : goal.returns-then-not-are_good
returns-then-not-are_good g c = inr (
  record {
    answered = c.have_answered.ensures.0 c.if-not-have_answered.false;
    passed = c.from_mask-good.result;
    had = subst (IsGoodMask c.args.whys.now) (sym c.from_mask-good.ensures) c.good_mask.ensures;
    wrote = c.write_formats-written.ensures;
  },
  λ all. let good : c.are_good.result ≡ true = c.are_good.ensures.1 all in let bad = c.if-not-are_good.true in cc,
)
