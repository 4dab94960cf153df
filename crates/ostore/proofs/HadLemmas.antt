-- What was had of each of many results.
use Rattle.std.proofs.Common.{◌≡◌, ◌∙◌, ℕ, ◌<◌, List, Result, Ok, Err, length, map, slice_index_or, subst, sym, ap}
use Rattle.std.proofs.lemmas.List.{get_or-map, length-map}
use Rattle.std.specs.Global.{Global}
use Rattle.std.specs.Prelude.{All, IfOk, Vec}

-- where each result of many meets P if it was had, so does each of the values, if they were had
pub all_had : {X E F : Type 0} (P : X → Type 0) (n : ℕ) (found : List (Result X E)) (result : Result (Vec X Global) F)
    → IfOk result (λ values. found ≡ map Ok values.items) → length found ≡ n
    → ((i : ℕ) (d : Result X E) → i < n → IfOk (slice_index_or found i d) P) → IfOk result (λ values. All P values.items)
all_had P n found (Err e) is count each = is
all_had P n found (Ok values) is count each = λ i d within.
    let inside : i < n = subst (λ k. i < k) (sym (length-map values.items Ok) ∙ (ap length (sym is) ∙ count)) within in
    let at : slice_index_or found i (Ok d) ≡ Ok (slice_index_or values.items i d) = ap (λ l. slice_index_or l i (Ok d)) is ∙ get_or-map Ok values.items i d (Ok d) within in
    subst (λ r. IfOk r P) at (each i (Ok d) inside)
