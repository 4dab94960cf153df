use Rattle.std.proofs.Common.{◌∙◌, Some, sym, ap}
use Rattle.receipts.specs.Pages.{PageRule, are_same, group_of}
use Rattle.list_page.specs.Asks.{rule_of}
use Rattle.list_page.proofs.LastLemmas.{in_last_by}
use Rattle.list_page.proofs.wanting.is_in_last.Goals as goal

pub returns-in-None : goal.returns-in-None
returns-in-None c =
    let rule : PageRule = rule_of c.args.ask.now in
    sym (in_last_by rule c.args.rows.now c.args.key.now (Some c.in-Some.last.now) c.in-Some.ensures.value
    ∙ ap (λ group. are_same group (group_of rule c.args.key.now)) c.in-None.ensures)

pub returns-in-Some-group_in : goal.returns-in-Some-group_in
returns-in-Some-group_in c =
    let rule : PageRule = rule_of c.args.ask.now in
    c.is_group.ensures ∙ (ap (λ text. are_same (Some text) (group_of rule c.args.key.now)) c.as_slice.ensures
    ∙ sym (in_last_by rule c.args.rows.now c.args.key.now (Some c.in-Some.last.now) c.in-Some.ensures.value
    ∙ ap (λ group. are_same group (group_of rule c.args.key.now)) c.in-Some-group_in.ensures))
