use Rattle.std.proofs.Common.{◌≡◌, ◌∙◌, ℕ, List, false, sym, ap}
use Rattle.std.specs.Prelude.{if◌then◌else◌}
use Rattle.receipts.specs.Pages.{begins_with}
use Rattle.list_page.specs.Starting.{start_of}
use Rattle.list_page.proofs.starting.start_of.Goals as goal

pub returns-else-starts_with : goal.returns-else-starts_with
returns-else-starts_with c =
    let prefix : List ℕ = c.args.prefix.now in
    let start : List ℕ = c.in-Some.start in
    let begins : begins_with prefix start ≡ false =
    ap (λ front. begins_with front start) (sym c.as_slice-in-Some-2.ensures) ∙ (ap (begins_with c.as_slice-in-Some-2.result.now) (sym c.as_slice-in-Some.ensures)
    ∙ (sym c.starts_with.ensures.value ∙ c.if-starts_with.false)) in
    c.as_slice-else-starts_with.ensures ∙ (sym (ap (λ test. if test then start else prefix) begins) ∙ ap (start_of prefix) (sym c.in-Some.is))
