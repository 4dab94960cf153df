-- Members of lists, items taken out of them, and names that differ.
use Rattle.std.proofs.Common.{◌≡◌, ◌≢◌, ◌⊎◌, ◌<◌, ◌∙◌, ℕ, zero, suc, List, [], ◌∷◌, ◌++◌, length, get_or, map, Contains, bytes_eq, false, sym, ap, subst, refl, inl, inr, arith}
use Rattle.std.specs.List.{AllByRecursion}
use Rattle.std.proofs.lemmas.Bool.{cases_Bool, true≢false}
use Rattle.std.proofs.lemmas.List.Elements.{Contains-append_left, Contains-append_right, Contains-append_cases}
use Rattle.std.proofs.lemmas.Slice.Eq.{bytes_eq-Decides}
use Rattle.version_list.specs.State.{AreDistinct}
use Rattle.slot_history.specs.State.{TakesOut}

-- two names are the same, or differ
pub same_or_other : (a b : List ℕ) → (a ≡ b) ⊎ (bytes_eq a b ≡ false)
same_or_other a b = elim (cases_Bool (bytes_eq a b)) [
  | inl same ↦ inl ((bytes_eq-Decides a b).0 same)
  | inr other ↦ inr other
]

pub other_is_other : (a b : List ℕ) → bytes_eq a b ≡ false → a ≡ b → ⊥
other_is_other a b other same = true≢false (sym ((bytes_eq-Decides a b).1 same) ∙ other)

-- an empty list has no member
pub nil_none : {A : Type 0} (a : A) → Contains [] a → ⊥
nil_none a h = let inside : h.0 < 0 = h.1 in omega arith

-- the members of a list are its first element and those of the rest
pub head_there : {A : Type 0} (x : A) (xs : List A) → Contains (x ∷ xs) x
head_there x xs = (zero, omega arith, refl)

pub tail_there : {A : Type 0} (x : A) (xs : List A) (a : A) → Contains xs a → Contains (x ∷ xs) a
tail_there x xs a h = (suc h.0, omega (arith, h.1), h.2)

at_place : {A : Type 0} (x : A) (xs : List A) (a : A) (k : ℕ) → k < length (x ∷ xs) → get_or (x ∷ xs) k a ≡ a → (x ≡ a) ⊎ Contains xs a
at_place x xs a zero inside same = inl same
at_place x xs a (suc k) inside same = inr (k, omega arith, same)

pub cons_cases : {A : Type 0} (x : A) (xs : List A) (a : A) → Contains (x ∷ xs) a → (x ≡ a) ⊎ Contains xs a
cons_cases x xs a h = at_place x xs a h.0 h.1 h.2

-- what is left of a list was there, with what was taken out and nothing else
pub taken_itself : {A : Type 0} (x : A) (old new : List A) → TakesOut x old new → Contains old x
taken_itself x old new out =
    subst (λ l. Contains l x) (sym out.old_is) (Contains-append_right out.front (x ∷ out.rest) x (head_there x out.rest))

pub taken_before : {A : Type 0} (x : A) (old new : List A) → TakesOut x old new → (y : A) → Contains new y → Contains old y
taken_before x old new out y h =
    let left : Contains (out.front ++ out.rest) y = subst (λ l. Contains l y) out.new_is h in
    subst (λ l. Contains l y) (sym out.old_is) (elim (Contains-append_cases out.front out.rest y left) [
      | inl front ↦ Contains-append_left out.front (x ∷ out.rest) y front
      | inr rest ↦ Contains-append_right out.front (x ∷ out.rest) y (tail_there x out.rest y rest)
    ])

pub taken_after : {A : Type 0} (x : A) (old new : List A) → TakesOut x old new → (y : A) → Contains old y → (x ≡ y) ⊎ Contains new y
taken_after x old new out y h = elim (Contains-append_cases out.front (x ∷ out.rest) y (subst (λ l. Contains l y) out.old_is h)) [
  | inl front ↦ inr (subst (λ l. Contains l y) (sym out.new_is) (Contains-append_left out.front out.rest y front))
  | inr rest ↦ elim (cons_cases x out.rest y rest) [
    | inl same ↦ inl same
    | inr later ↦ inr (subst (λ l. Contains l y) (sym out.new_is) (Contains-append_right out.front out.rest y later))
  ]
]

-- a member can be taken out
pub takes_out : {A : Type 0} (x : A) (xs : List A) → Contains xs x → (ys : List A) × TakesOut x xs ys
takes_out x [] h = absurd (nil_none x h)
takes_out x (y ∷ xs) h = elim (cons_cases y xs x h) [
  | inl same ↦ (xs, record { front = []; rest = xs; old_is = ap (λ z. z ∷ xs) same; new_is = refl })
  | inr later ↦ let out = takes_out x xs later in (
    y ∷ out.0,
    record { front = y ∷ out.1.front; rest = out.1.rest; old_is = ap (λ l. y ∷ l) out.1.old_is; new_is = ap (λ l. y ∷ l) out.1.new_is },
  )
]

-- what holds of the image of each member holds by recursion on the images
pub each_image : {A : Type 0} (P : ℕ → Type 0) (f : A → ℕ) (xs : List A) → AllByRecursion P (map f xs) → (y : A) → Contains xs y → P (f y)
each_image P f [] all y h = absurd (nil_none y h)
each_image P f (x ∷ xs) all y h = elim (cons_cases x xs y h) [
  | inl same ↦ subst (λ z. P (f z)) same all.0
  | inr later ↦ each_image P f xs all.1 y later
]

pub all_images : {A : Type 0} (P : ℕ → Type 0) (f : A → ℕ) (xs : List A) → ((y : A) → Contains xs y → P (f y)) → AllByRecursion P (map f xs)
all_images P f [] each = tt
all_images P f (x ∷ xs) each = (each x (head_there x xs), all_images P f xs (λ y h. each y (tail_there x xs y h)))

-- what is left of distinct numbers is distinct, and differs from what was taken out
distinct_left : {A : Type 0} (f : A → ℕ) (x : A) (front rest : List A) → AreDistinct (map f (front ++ x ∷ rest))
    → AreDistinct (map f (front ++ rest)) × ((y : A) → Contains (front ++ rest) y → f x ≢ f y)
distinct_left f x [] rest differ = (differ.1, λ y h. each_image (λ n. f x ≢ n) f rest differ.0 y h)
distinct_left f x (z ∷ front) rest differ =
    let left = distinct_left f x front rest differ.1 in
    let there : Contains (front ++ x ∷ rest) x = Contains-append_right front (x ∷ rest) x (head_there x rest) in
    let out : TakesOut x (front ++ x ∷ rest) (front ++ rest) = record { front = front; rest = rest; old_is = refl; new_is = refl } in (
      (
        all_images (λ n. f z ≢ n) f (front ++ rest)
            (λ y h. each_image (λ n. f z ≢ n) f (front ++ x ∷ rest) differ.0 y (taken_before x (front ++ x ∷ rest) (front ++ rest) out y h)),
        left.0,
      ),
      λ y h. elim (cons_cases z (front ++ rest) y h) [
        | inl same ↦ λ equal. each_image (λ n. f z ≢ n) f (front ++ x ∷ rest) differ.0 x there (ap f same ∙ sym equal)
        | inr later ↦ left.1 y later
      ],
    )

pub distinct_taken : {A : Type 0} (f : A → ℕ) (x : A) (old new : List A) → TakesOut x old new → AreDistinct (map f old)
    → AreDistinct (map f new) × ((y : A) → Contains new y → f x ≢ f y)
distinct_taken f x old new out differ =
    let left = distinct_left f x out.front out.rest (subst (λ l. AreDistinct (map f l)) out.old_is differ) in (
      subst (λ l. AreDistinct (map f l)) (sym out.new_is) left.0,
      λ y h. left.1 y (subst (λ l. Contains l y) out.new_is h),
    )
