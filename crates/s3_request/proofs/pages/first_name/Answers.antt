use borrow.Author.Count.{below_more}
use Rattle.std.proofs.Common.{sym, ap, ◌∙◌, arith}
use Rattle.s3_request.specs.Pages.{is_wrong}
use Rattle.s3_request.proofs.QueryLemmas.{name_found, name_missing}
use Rattle.s3_request.proofs.pages.first_name.Goals as goal

pub loop-i-preserved : goal.loop-i-preserved
loop-i-preserved c =
    let wrong = c.args.wrong in
    below_more _ _ c.loop-i.invariant
    (ap (is_wrong wrong.most wrong.encoded wrong.third.now wrong.other) (sym c.name.ensures) ∙ (sym c.is_wrong.ensures ∙ c.if-is_wrong.false))

pub returns-then-is_wrong : goal.returns-then-is_wrong
returns-then-is_wrong c =
    let wrong = c.args.wrong in
    c.name-then-is_wrong.ensures
    ∙ sym (name_found (is_wrong wrong.most wrong.encoded wrong.third.now wrong.other) c.args.query.now c.loop-i.i (omega arith) c.loop-i.invariant
    (ap (is_wrong wrong.most wrong.encoded wrong.third.now wrong.other) (sym c.name.ensures) ∙ (sym c.is_wrong.ensures ∙ c.if-is_wrong.true)))

pub returns : goal.returns
returns c =
    let wrong = c.args.wrong in
    sym (name_missing (is_wrong wrong.most wrong.encoded wrong.third.now wrong.other) c.args.query.now (λ k less. c.loop-i.invariant k (omega (arith, less))))
