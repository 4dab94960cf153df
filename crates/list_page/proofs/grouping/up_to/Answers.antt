use Rattle.std.proofs.Common.{◌∙◌, sym, ap, arith}
use Rattle.receipts.specs.Pages.{begins_with}
use Rattle.list_page.proofs.GroupLemmas.{found_at, found_nowhere}
use Rattle.list_page.proofs.TextLemmas.{rest_taken}
use Rattle.list_page.proofs.grouping.up_to.Goals as goal

pub returns-then-starts_with : goal.returns-then-starts_with
returns-then-starts_with c = found_at c.args.delimiter.now c.args.text.now c.loop-at.at c.loop-at-test.true c.loop-at.invariant
    (ap (begins_with c.args.delimiter.now) (sym (rest_taken c.loop-at.at c.args.text.now)) ∙ (sym c.starts_with.ensures.value ∙ c.if-starts_with.true))

pub returns : goal.returns
returns c = found_nowhere c.args.delimiter.now c.args.text.now (λ k inside. c.loop-at.invariant k (omega arith))
