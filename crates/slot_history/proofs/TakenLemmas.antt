-- Items that are put in front of a list or taken out of it, and lists in which none stands twice.
use Rattle.std.proofs.Common.{◌≡◌, ◌≢◌, ◌⊎◌, inl, inr, ◌<◌, ℕ, zero, suc, List, [], ◌∷◌, ◌++◌, length, get_or, map, Contains, refl, sym, subst, arith}
use Rattle.std.specs.List.{AllByRecursion}
use Rattle.std.proofs.lemmas.List.Elements.{Contains-append_left, Contains-append_right, Contains-append_cases}
use Rattle.version_list.specs.State.{AreDistinct}
use Rattle.version_list.proofs.SubLemmas.{Sub, keep, skip, Sub-refl, Sub-map, AreDistinct-Sub}
use Rattle.slot_history.specs.State.{TakesOut}

-- ---- the first item and the rest

-- the first item is there
pub first_there : {A : Type 0} (x : A) (xs : List A) → Contains (x ∷ xs) x
first_there x xs = (zero, omega arith, refl)

-- and so are those of the rest
pub rest_there : {A : Type 0} (x : A) (xs : List A) (y : A) → Contains xs y → Contains (x ∷ xs) y
rest_there x xs y h = (suc h.0, omega (arith, h.1), h.2)

-- the item at a place
at_place : {A : Type 0} (x : A) (xs : List A) (y : A) (k : ℕ) → k < length (x ∷ xs) → get_or (x ∷ xs) k y ≡ y → (x ≡ y) ⊎ Contains xs y
at_place x xs y zero inside same = inl same
at_place x xs y (suc k) inside same = inr (k, omega arith, same)

-- no others are
pub there_cases : {A : Type 0} (x : A) (xs : List A) (y : A) → Contains (x ∷ xs) y → (x ≡ y) ⊎ Contains xs y
there_cases x xs y h = at_place x xs y h.0 h.1 h.2

-- an empty list has none
pub none_there : {A : Type 0} (y : A) → Contains [] y → ⊥
none_there y h = omega (arith, h.1)

-- ---- what is true of each item

-- where it is true of each item that is there
pub all_items : {A : Type 0} (P : A → Type 0) (xs : List A) → ((y : A) → Contains xs y → P y) → AllByRecursion P xs
all_items P [] each = tt
all_items P (x ∷ xs) each = (each x (first_there x xs), all_items P xs (λ y there. each y (rest_there x xs y there)))

-- and back, under a function
pub item_of_all : {A B : Type 0} (P : B → Type 0) (f : A → B) (xs : List A) (y : A) → AllByRecursion P (map f xs) → Contains xs y → P (f y)
item_of_all P f [] y all there = absurd (none_there y there)
item_of_all P f (x ∷ xs) y all there = elim (there_cases x xs y there) [
  | inl same ↦ subst (λ z. P (f z)) same all.0
  | inr later ↦ item_of_all P f xs y all.1 later
]

-- ---- an item that is taken out

-- it was there
pub taken_there : {A : Type 0} (x : A) (old new : List A) → TakesOut x old new → Contains old x
taken_there x old new t =
    subst (λ l. Contains l x) (sym t.old_is) (Contains-append_right t.front (x ∷ t.rest) x (first_there x t.rest))

-- what is left was there
pub left_there : {A : Type 0} (x : A) (old new : List A) → TakesOut x old new → (y : A) → Contains new y → Contains old y
left_there x old new t y there =
    subst (λ l. Contains l y) (sym t.old_is) (elim (Contains-append_cases t.front t.rest y (subst (λ l. Contains l y) t.new_is there)) [
      | inl before ↦ Contains-append_left t.front (x ∷ t.rest) y before
      | inr behind ↦ Contains-append_right t.front (x ∷ t.rest) y (rest_there x t.rest y behind)
    ])

-- what was there is the item or is left
pub taken_or_left : {A : Type 0} (x : A) (old new : List A) → TakesOut x old new → (y : A) → Contains old y → (x ≡ y) ⊎ Contains new y
taken_or_left {A} x old new t y there =
    let left : Contains (t.front ++ t.rest) y → Contains new y = subst (λ (l : List A). Contains l y) (sym t.new_is) in
    elim (Contains-append_cases t.front (x ∷ t.rest) y (subst (λ l. Contains l y) t.old_is there)) [
      | inl before ↦ inr (left (Contains-append_left t.front t.rest y before))
      | inr behind ↦ elim (there_cases x t.rest y behind) [
        | inl same ↦ inl same
        | inr later ↦ inr (left (Contains-append_right t.front t.rest y later))
      ]
    ]

-- the list without the item is part of it
without_Sub : {A : Type 0} (front : List A) (x : A) (rest : List A) → Sub (front ++ rest) (front ++ x ∷ rest)
without_Sub [] x rest = skip x rest rest (Sub-refl rest)
without_Sub (z ∷ front) x rest = keep z (front ++ rest) (front ++ x ∷ rest) (without_Sub front x rest)

-- what is left is distinct
pub left_distinct : {A B : Type 0} (f : A → B) (x : A) (old new : List A) → TakesOut x old new → AreDistinct (map f old) → AreDistinct (map f new)
left_distinct f x old new t distinct =
    let whole = subst (λ l. AreDistinct (map f l)) t.old_is distinct in
    let sub = Sub-map f (t.front ++ t.rest) (t.front ++ x ∷ t.rest) (without_Sub t.front x t.rest) in
    subst (λ l. AreDistinct (map f l)) (sym t.new_is) (AreDistinct-Sub (map f (t.front ++ t.rest)) (map f (t.front ++ x ∷ t.rest)) sub whole)

-- an item of a distinct list differs from each other
apart_in :
    {A B : Type 0} (f : A → B) (front : List A) (x : A) (rest : List A) (y : A) → AreDistinct (map f (front ++ x ∷ rest)) → Contains (front ++ rest) y
    → f y ≢ f x
apart_in f [] x rest y distinct there same = item_of_all (λ z. f x ≢ z) f rest y distinct.0 there (sym same)
apart_in f (z ∷ front) x rest y distinct there same = elim (there_cases z (front ++ rest) y there) [
  | inl first ↦
      item_of_all (λ w. f z ≢ w) f (front ++ x ∷ rest) x distinct.0 (Contains-append_right front (x ∷ rest) x (first_there x rest))
      (subst (λ w. f w ≡ f x) (sym first) same)
  | inr later ↦ apart_in f front x rest y distinct.1 later same
]

-- and differs from the item
pub left_apart : {A B : Type 0} (f : A → B) (x : A) (old new : List A) → TakesOut x old new → AreDistinct (map f old) → (y : A) → Contains new y → f y ≢ f x
left_apart f x old new t distinct y there =
    apart_in f t.front x t.rest y (subst (λ l. AreDistinct (map f l)) t.old_is distinct) (subst (λ l. Contains l y) t.new_is there)
