-- Rows that are taken out of a slot's memory.
use Rattle.std.proofs.Common.{◌≡◌, ◌∙◌, ℕ, suc, ◌<◌, List, ◌∷◌, ◌++◌, length, take, drop, refl, sym, subst, ap}
use Rattle.std.specs.Prelude.{slice_index_or}
use Rattle.std.proofs.lemmas.List.{set-get_or, set_split}
use Rattle.slot_history.specs.State.{TakesOut}

-- the item at a place is taken out
pub taken_at : {A : Type 0} (xs : List A) (i : ℕ) (x : A) → i < length xs → x ≡ slice_index_or xs i x → TakesOut x xs (take i xs ++ drop (suc i) xs)
taken_at {A} xs i x within is = record {
  front = take i xs;
  rest = drop (suc i) xs;
  old_is = subst (λ (y : A). xs ≡ take i xs ++ y ∷ drop (suc i) xs) (sym is)
      (sym (set-get_or xs i x) ∙ set_split xs i (slice_index_or xs i x) within);
  new_is = refl;
}

-- so is the row of a place that was found in a list that is the same
pub row_taken : {A B : Type 0} (f : A → B) (b : B) (seen xs new : List A) (i : ℕ) (x : A) → seen ≡ xs
    → (i < length seen) × ((d : A) → f (slice_index_or seen i d) ≡ b) → x ≡ slice_index_or xs i x → new ≡ take i xs ++ drop (suc i) xs
    → (f x ≡ b) × TakesOut x xs new
row_taken {A} f b seen xs new i x same found is rest =
    let here = subst (λ (l : List A). (i < length l) × ((d : A) → f (slice_index_or l i d) ≡ b)) same found in
    (ap f is ∙ here.1 x, subst (λ (l : List A). TakesOut x xs l) (sym rest) (taken_at xs i x here.0 is))
