-- Lists of which some items are left out.
use Rattle.std.proofs.Common.{◌≡◌, ◌≢◌, ◌≤◌, List, [], ◌∷◌, ◌++◌, length, map, filter, Bool, true, false, refl, sym, arith}
use Rattle.std.specs.List.{AllByRecursion}
use Rattle.version_list.specs.State.{AreDistinct}

-- the first list is the second without some of its items
pub data Sub {A : Type 0} : List A → List A → Type 0 where
  empty : Sub [] []
  skip : (y : A) (xs ys : List A) → Sub xs ys → Sub xs (y ∷ ys)
  keep : (x : A) (xs ys : List A) → Sub xs ys → Sub (x ∷ xs) (x ∷ ys)

pub Sub-refl : {A : Type 0} (xs : List A) → Sub xs xs
Sub-refl [] = empty
Sub-refl (x ∷ xs) = keep x xs xs (Sub-refl xs)

pub Sub-filter : {A : Type 0} (p : A → Bool) (xs : List A) → Sub (filter p xs) xs
Sub-filter p [] = empty
Sub-filter {A} p (x ∷ xs) = step (p x) refl (Sub-filter p xs)
  where
    step : (b : Bool) → p x ≡ b → Sub (filter p xs) xs → Sub (filter p (x ∷ xs)) (x ∷ xs)
    step true h sub = rw h (keep x (filter p xs) xs sub)
    step false h sub = rw h (skip x (filter p xs) xs sub)

pub Sub-map : {A B : Type 0} (f : A → B) (xs ys : List A) → Sub xs ys → Sub (map f xs) (map f ys)
Sub-map f _ _ empty = empty
Sub-map f _ _ (skip y xs ys sub) = skip (f y) (map f xs) (map f ys) (Sub-map f xs ys sub)
Sub-map f _ _ (keep x xs ys sub) = keep (f x) (map f xs) (map f ys) (Sub-map f xs ys sub)

pub Sub-append : {A : Type 0} (xs ys us vs : List A) → Sub xs ys → Sub us vs → Sub (xs ++ us) (ys ++ vs)
Sub-append _ _ us vs empty sub = sub
Sub-append _ _ us vs (skip y xs ys more) sub = skip y (xs ++ us) (ys ++ vs) (Sub-append xs ys us vs more sub)
Sub-append _ _ us vs (keep x xs ys more) sub = keep x (xs ++ us) (ys ++ vs) (Sub-append xs ys us vs more sub)

pub length-Sub : {A : Type 0} (xs ys : List A) → Sub xs ys → length xs ≤ length ys
length-Sub _ _ empty = omega arith
length-Sub _ _ (skip y xs ys sub) = omega (arith, length-Sub xs ys sub)
length-Sub _ _ (keep x xs ys sub) = omega (arith, length-Sub xs ys sub)

pub All-Sub : {A : Type 0} (P : A → Type 0) (xs ys : List A) → Sub xs ys → AllByRecursion P ys → AllByRecursion P xs
All-Sub P _ _ empty all = all
All-Sub P _ _ (skip y xs ys sub) all = All-Sub P xs ys sub all.1
All-Sub P _ _ (keep x xs ys sub) all = (all.0, All-Sub P xs ys sub all.1)

pub AreDistinct-Sub : {A : Type 0} (xs ys : List A) → Sub xs ys → AreDistinct ys → AreDistinct xs
AreDistinct-Sub _ _ empty distinct = distinct
AreDistinct-Sub _ _ (skip y xs ys sub) distinct = AreDistinct-Sub xs ys sub distinct.1
AreDistinct-Sub _ _ (keep x xs ys sub) distinct = (All-Sub (λ y. x ≢ y) xs ys sub distinct.0, AreDistinct-Sub xs ys sub distinct.1)

-- what is true of the items of two lists is true of those of the joined list
pub All-append : {A : Type 0} (P : A → Type 0) (xs ys : List A) → AllByRecursion P xs → AllByRecursion P ys → AllByRecursion P (xs ++ ys)
All-append P [] ys here there = there
All-append P (x ∷ xs) ys here there = (here.0, All-append P xs ys here.1 there)

-- one more item at the end
pub AreDistinct-push : {A : Type 0} (xs : List A) (y : A) → AreDistinct xs → AllByRecursion (λ x. y ≢ x) xs → AreDistinct (xs ++ y ∷ [])
AreDistinct-push [] y distinct apart = (tt, tt)
AreDistinct-push (x ∷ xs) y distinct apart = (
  All-append (λ z. x ≢ z) xs (y ∷ []) distinct.0 ((λ same. apart.0 (sym same)), tt),
  AreDistinct-push xs y distinct.1 apart.1,
)
