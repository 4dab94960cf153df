use Rattle.std.proofs.Common.{sym, ◌∙◌, arith}
use Rattle.version_list.proofs.KeptLemmas.{IsFrontAgain-unchanged, unchanged-IsFrontAgain}
use Rattle.version_list.proofs.edit.is_front_again.Goals as goal

pub returns-then-not-is_named : goal.returns-then-not-is_named
returns-then-not-is_named c = (
  λ t. cc,
  λ same. let again = unchanged-IsFrontAgain c.args.front.now c.args.first.now c.args.goes c.args.rest.now c.requires same in cc (again.first_goes),
)

pub returns : goal.returns
returns c = (
  λ t.
      IsFrontAgain-unchanged c.args.front.now c.args.first.now c.args.goes c.args.rest.now
      (record { first_goes = sym c.is_named.ensures ∙ c.if-not-is_named.false; rest_stays = omega arith; same = c.is_same.ensures.0 t }),
  λ same.
      let again = unchanged-IsFrontAgain c.args.front.now c.args.first.now c.args.goes c.args.rest.now c.requires same in
      c.is_same.ensures.1 again.same,
)
