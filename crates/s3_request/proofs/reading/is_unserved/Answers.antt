use Rattle.std.proofs.Common.{◌≡◌, ◌∙◌, ap, sym, Bool, true, false}
use Rattle.std.specs.Prelude.{◌||◌}
use Rattle.s3_request.specs.Reads.{asked_of, asks_unkept, is_conditional}
use Rattle.s3_request.proofs.reading.is_unserved.Goals.{then-is_copy, else-is_copy}
use Rattle.s3_request.proofs.reading.is_unserved.Goals as goal

-- where the first isn't so, the second and third, joined, and the fourth decide
joined_decide : (a b c d joined r : Bool) → a ≡ false → joined ≡ (b || c) → r ≡ (joined || d) → r ≡ (a || b || c || d)
joined_decide true b c d joined r first is so = absurd cc
joined_decide false b c d joined r first is so = so ∙ ap (λ x. x || d) is

-- one that is so decides
one_decides : (b c joined : Bool) → b ≡ true → joined ≡ true → joined ≡ (b || c)
one_decides true c joined one is = is
one_decides false c joined one is = absurd cc

-- where one isn't so, the other decides
other_decides : (b c joined : Bool) → b ≡ false → joined ≡ c → joined ≡ (b || c)
other_decides true c joined one is = absurd cc
other_decides false c joined one is = is

pub returns-then-is_conditional : goal.returns-then-is_conditional
returns-then-is_conditional c = λ limit.
    let asked = asked_of c.args.head.now c.args.query.now limit in
    let joined : c.if-is_copy.value ≡ (c.is_copy.result || is_conditional asked c.args.place.now) = elim c.if-is_copy.branch [
      | then-is_copy w ↦ one_decides _ _ _ w.if-is_copy.true (w.value-is ∙ w.if-is_copy.true)
      | else-is_copy w ↦ other_decides _ _ _ w.if-is_copy.false (w.value-is ∙ w.is_conditional.ensures c.args.query.now limit)
    ] in
    joined_decide _ _ _ (asks_unkept asked) _ _ (sym c.asks_unserved.ensures ∙ c.if-asks_unserved.false)
    (joined ∙ ap (λ b. b || is_conditional asked c.args.place.now) c.is_copy.ensures)
    (c.if-is_conditional.true ∙ sym (ap (λ b. b || asks_unkept asked) c.if-is_conditional.true))

pub returns-else-is_conditional : goal.returns-else-is_conditional
returns-else-is_conditional c = λ limit.
    let asked = asked_of c.args.head.now c.args.query.now limit in
    let joined : c.if-is_copy.value ≡ (c.is_copy.result || is_conditional asked c.args.place.now) = elim c.if-is_copy.branch [
      | then-is_copy w ↦ one_decides _ _ _ w.if-is_copy.true (w.value-is ∙ w.if-is_copy.true)
      | else-is_copy w ↦ other_decides _ _ _ w.if-is_copy.false (w.value-is ∙ w.is_conditional.ensures c.args.query.now limit)
    ] in
    joined_decide _ _ _ (asks_unkept asked) _ _ (sym c.asks_unserved.ensures ∙ c.if-asks_unserved.false)
    (joined ∙ ap (λ b. b || is_conditional asked c.args.place.now) c.is_copy.ensures)
    (c.asks_unkept.ensures c.args.query.now limit ∙ sym (ap (λ b. b || asks_unkept asked) c.if-is_conditional.false))
