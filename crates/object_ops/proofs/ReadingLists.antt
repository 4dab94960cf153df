-- Lists that claims have in hand.
use Rattle.std.proofs.Common.{◌≡◌, ◌≢◌, List, [], ◌∷◌, ◌++◌, Contains, Option, Some, None, MatchOption, inl, inr, refl, sym, subst}
use Rattle.std.specs.List.{flat_map}
use Rattle.std.proofs.lemmas.List.{map-id}
use Rattle.std.proofs.lemmas.List.Elements.{Contains-append_left, Contains-append_right, Contains-append_cases}
use Rattle.version_list.specs.State.{AreDistinct}
use Rattle.slot_history.specs.State.{TakesOut}
use Rattle.slot_history.proofs.TakenLemmas.{left_apart, left_distinct, none_there, rest_there, first_there, there_cases}
use Rattle.slot_data.proofs.ListedLemmas.{put_distinct}

-- nothing is no item
abbrev pub is_none : {A : Type 0} → Option A → Type 0
is_none None = Unit {0}
is_none (Some x) = ⊥

pub none_some : {A : Type 0} (x : A) → None ≡ Some x → ⊥
none_some {A} x is = subst (λ (o : Option A). is_none o) is tt

-- what is true of the one item is true of it under another name
pub of_some : {A : Type 0} (P : A → Type 0) (x y : A) → Some x ≡ Some y → P x → P y
of_some {A} P x y is here = subst (λ (o : Option A). MatchOption o ⊥ P) is here

-- the item that a joined list has
pub flat_there : {A B : Type 0} (f : A → List B) (xs : List A) (y : B) → Contains (flat_map f xs) y → (x : A) × Contains xs x × Contains (f x) y
flat_there f [] y there = absurd (none_there y there)
flat_there f (x ∷ xs) y there = elim (Contains-append_cases (f x) (flat_map f xs) y there) [
  | inl own ↦ (x, first_there x xs, own)
  | inr more ↦ let found = flat_there f xs y more in (found.0, rest_there x xs found.0 found.1, found.2)
]

pub flat_has : {A B : Type 0} (f : A → List B) (xs : List A) (x : A) (y : B) → Contains xs x → Contains (f x) y → Contains (flat_map f xs) y
flat_has f [] x y there own = absurd (none_there x there)
flat_has f (z ∷ xs) x y there own = elim (there_cases z xs x there) [
  | inl same ↦ Contains-append_left (f z) (flat_map f xs) y (subst (λ w. Contains (f w) y) (sym same) own)
  | inr later ↦ Contains-append_right (f z) (flat_map f xs) y (flat_has f xs x y later own)
]

-- one item is put among others, or taken out
one_out : {A : Type 0} (front : List A) (x : A) (rest : List A) → TakesOut x (front ++ x ∷ rest) (front ++ rest)
one_out front x rest = record { front = front; rest = rest; old_is = refl; new_is = refl }

pub put_apart : {A : Type 0} (front : List A) (x : A) (rest : List A) → AreDistinct (front ++ rest) → ((y : A) → Contains (front ++ rest) y → y ≢ x)
    → AreDistinct (front ++ x ∷ rest)
put_apart {A} front x rest distinct apart =
    subst AreDistinct (map-id (front ++ x ∷ rest))
    (put_distinct (λ (y : A). y) x (front ++ x ∷ rest) (front ++ rest) (one_out front x rest) (subst AreDistinct (sym (map-id (front ++ rest))) distinct) apart)

pub out_distinct : {A : Type 0} (front : List A) (x : A) (rest : List A) → AreDistinct (front ++ x ∷ rest) → AreDistinct (front ++ rest)
out_distinct {A} front x rest distinct =
    subst AreDistinct (map-id (front ++ rest))
    (left_distinct (λ (y : A). y) x (front ++ x ∷ rest) (front ++ rest) (one_out front x rest) (subst AreDistinct (sym (map-id (front ++ x ∷ rest))) distinct))

pub out_apart : {A : Type 0} (front : List A) (x : A) (rest : List A) → AreDistinct (front ++ x ∷ rest) → (y : A) → Contains (front ++ rest) y → y ≢ x
out_apart {A} front x rest distinct y there =
    left_apart (λ (z : A). z) x (front ++ x ∷ rest) (front ++ rest) (one_out front x rest) (subst AreDistinct (sym (map-id (front ++ x ∷ rest))) distinct) y there
