use Rattle.std.proofs.Common.{◌≡◌, ◌∙◌, ℕ, List, true, false, Some, sym, ap, length, drop}
use Rattle.std.specs.Prelude.{bytes_eq}
use Rattle.receipts.specs.Pages.{are_same, begins_with}
use Rattle.list_page.proofs.TextLemmas.{other_text, rest_taken, same_rest}
use Rattle.list_page.proofs.grouping.is_group.Goals as goal

pub returns-then-starts_with : goal.returns-then-starts_with
returns-then-starts_with c =
    let prefix : List ℕ = c.args.ask.now.prefix in
    let text : List ℕ = c.args.text.now in
    let begins : begins_with prefix text ≡ true =
    ap (λ front. begins_with front text) (sym c.as_slice-prefix.ensures) ∙ (sym c.starts_with.ensures.value ∙ c.if-starts_with.true) in
    let rest : c.eq.result ≡ bytes_eq (drop (length prefix) text) c.in-Some.tail.now =
    c.eq.ensures ∙ (ap (λ t. bytes_eq t c.in-Some.tail.now) (rest_taken (length c.as_slice-prefix.result.now) text)
    ∙ ap (λ front. bytes_eq (drop (length front) text) c.in-Some.tail.now) c.as_slice-prefix.ensures) in
    rest ∙ (same_rest prefix text c.in-Some.tail.now begins ∙ ap (are_same (Some text)) (sym c.in-Some.ensures))

pub returns-else-starts_with : goal.returns-else-starts_with
returns-else-starts_with c =
    let prefix : List ℕ = c.args.ask.now.prefix in
    let text : List ℕ = c.args.text.now in
    let begins : begins_with prefix text ≡ false =
    ap (λ front. begins_with front text) (sym c.as_slice-prefix.ensures) ∙ (sym c.starts_with.ensures.value ∙ c.if-starts_with.false) in
    c.if-starts_with.false ∙ (sym (other_text prefix text c.in-Some.tail.now begins) ∙ ap (are_same (Some text)) (sym c.in-Some.ensures))
