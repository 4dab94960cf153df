-- A sheet with a page of names.
use Rattle.std.proofs.Common.{◌≡◌, ℕ, ◌≤◌, List, ◌++◌, length, drop, Option, sym, ap, ap₂, ◌∙◌}
use Rattle.std.specs.Prelude.{filter}
use Rattle.std.proofs.lemmas.List.{drop-append-le}
use Rattle.receipts.specs.Pages.{PageRule}
use Rattle.list_ops.specs.Sheets.{Sheet, bound_after, is_found, with_names}

pub gathered : (rule : PageRule) (bucket : List ℕ) (sheet : Sheet) (at : ℕ) (old new names : List (List ℕ)) (bound : Option (List ℕ)) → at ≤ length old
    → sheet.left ≡ drop at old → bound ≡ bound_after rule bucket sheet.most names sheet.bound → new ≡ old ++ filter (is_found rule bucket sheet.slot) names
    → record sheet { bound = bound; left = drop at new } ≡ with_names rule bucket sheet names
gathered rule bucket sheet at old new names bound inside left bound_is new_is =
    let more = filter (is_found rule bucket sheet.slot) names in
    ap₂ (λ b l. record sheet { bound = b; left = l }) bound_is
    (ap (drop at) new_is ∙ (drop-append-le at old more inside ∙ ap (λ l. l ++ more) (sym left)))
