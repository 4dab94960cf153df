use Rattle.std.proofs.Common.{◌≡◌, ◌∙◌, ℕ, true, false, List, ◌++◌, ◌∷◌, [], Some, sym, ap}
use Rattle.call_types.specs.declared.reply.VersionRow.TheVariants as row
use Rattle.receipts.specs.Pages.{Candidate, PageRule, group_of, is_in_last, wants}
use Rattle.list_page.specs.Asks.{rule_of}
use Rattle.list_page.specs.Rows.{has_rows}
use Rattle.list_page.proofs.AddLemmas.{group_added}
use Rattle.list_page.proofs.rowing.add_candidate.Goals as goal

pub returns : goal.returns
returns c =
    let rule : PageRule = rule_of c.args.ask.now in
    let key : List ℕ = c.args.key.now in
    let candidate : Candidate = record { key = key; state = c.args.state.now } in
    let wanted : wants rule key ≡ true = ap (wants rule) (sym c.as_slice.ensures) ∙ (sym c.wants.ensures ∙ c.if-not-wants.false) in
    let fresh : is_in_last rule c.args.rows.now.items key ≡ false =
    ap (λ rows. is_in_last rule rows key) (sym c.as_slice-else-not-wants.ensures.value)
    ∙ (ap (is_in_last rule c.as_slice-else-not-wants.result.now) (sym c.as_slice-else-not-wants-2.ensures) ∙ (sym c.is_in_last.ensures ∙ c.if-is_in_last.false)) in
    let grouped : group_of rule key ≡ Some c.in-Some.group.now = ap (group_of rule) (sym c.as_slice-2.ensures) ∙ c.in-Some.ensures in
    let some : has_rows rule candidate ≡ true = sym c.has_rows.ensures ∙ c.if-not-has_rows.false in
    c.in_ok-push.ensures.items ∙ (ap (λ group. c.args.rows.now.items ++ row.Group group ∷ []) c.in_ok-group.ensures
    ∙ sym (group_added rule c.args.rows.now.items candidate c.in-Some.group.now wanted fresh grouped some))
