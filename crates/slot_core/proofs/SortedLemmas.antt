-- Lists of names that rise, one within another.
use Rattle.std.specs.Prelude.{◌≡◌, ◌⊎◌, ℕ, ◌≤◌, List, [], ◌∷◌, length, All, Contains, refl}
use Rattle.std.proofs.Common.{sym, ap, ◌∙◌, subst, inl, inr, arith}
use Rattle.std.proofs.lemmas.Cmp.{nat_list_cmp_total}
use Rattle.std.proofs.lemmas.List.Elements.{All-cons, All-contains, All-from_recursion, All-nil}
use Rattle.std.specs.List.Sorted.{IsStrictlySortedBy}
use Rattle.std.specs.Ordering.{ordering_reverse}
use Rattle.std.specs.declared.cmp.Ordering.TheVariants.{Less, Greater}
use Rattle.drive_base.specs.Names.{IsBefore, byte_order}
use Rattle.slot_history.proofs.TakenLemmas.{first_there, none_there, rest_there, there_cases}

-- no name stands before itself
pub not_before_itself : (a : List ℕ) → IsBefore a a → ⊥
not_before_itself a before =
    let turned : Less ≡ Greater = sym before ∙ (nat_list_cmp_total.antisymm a a ∙ ap ordering_reverse before) in cc

-- what stands before a name stands before those after it
pub before_trans : (a b c : List ℕ) → IsBefore a b → IsBefore b c → IsBefore a c
before_trans a b c first second = nat_list_cmp_total.trans a b c first second

-- the first of names that rise stands before each of the others
first_before : (x : List ℕ) (xs : List (List ℕ)) → IsStrictlySortedBy byte_order (x ∷ xs) → (y : List ℕ) → Contains xs y → IsBefore x y
unfolding IsStrictlySortedBy
first_before x xs rising y there = All-contains (λ z. byte_order x z ≡ Less) xs y (All-from_recursion (λ z. byte_order x z ≡ Less) xs rising.0) there

rest_rises : (x : List ℕ) (xs : List (List ℕ)) → IsStrictlySortedBy byte_order (x ∷ xs) → IsStrictlySortedBy byte_order xs
unfolding IsStrictlySortedBy
rest_rises x xs rising = rising.1

-- the rest of names that are within others is within the rest of these
rest_within : (x y : List ℕ) (xs ys : List (List ℕ)) → IsStrictlySortedBy byte_order (x ∷ xs) → IsStrictlySortedBy byte_order (y ∷ ys)
    → ((z : List ℕ) → Contains (x ∷ xs) z → Contains (y ∷ ys) z) → (z : List ℕ) → Contains xs z → Contains ys z
rest_within x y xs ys rising above within z there = elim (there_cases y ys z (within z (rest_there x xs z there))) [
  | inl same ↦ absurd (elim (there_cases y ys x (within x (first_there x xs))) [
    | inl equal ↦ not_before_itself x (subst (λ (w : List ℕ). IsBefore x w) (sym same ∙ equal) (first_before x xs rising z there))
    | inr later ↦ not_before_itself x (before_trans x z x (first_before x xs rising z there)
        (subst (λ (w : List ℕ). IsBefore w x) same (first_before y ys above x later)))
  ])
  | inr later ↦ later
]

-- names that rise are no more than those that they are within
pub within_length : (xs ys : List (List ℕ)) → IsStrictlySortedBy byte_order xs → IsStrictlySortedBy byte_order ys
    → ((z : List ℕ) → Contains xs z → Contains ys z) → length xs ≤ length ys
within_length [] ys rising above within = omega arith
within_length (x ∷ xs) [] rising above within = absurd (none_there x (within x (first_there x xs)))
within_length (x ∷ xs) (y ∷ ys) rising above within =
    let less : length xs ≤ length ys = within_length xs ys (rest_rises x xs rising) (rest_rises y ys above) (rest_within x y xs ys rising above within) in omega arith

-- where they are as many, they are the same
pub within_same : (xs ys : List (List ℕ)) → IsStrictlySortedBy byte_order xs → IsStrictlySortedBy byte_order ys
    → ((z : List ℕ) → Contains xs z → Contains ys z) → length ys ≤ length xs → ys ≡ xs
within_same [] [] rising above within long = refl
within_same [] (y ∷ ys) rising above within long = absurd (omega arith)
within_same (x ∷ xs) [] rising above within long = absurd (none_there x (within x (first_there x xs)))
within_same (x ∷ xs) (y ∷ ys) rising above within long =
    let rest : ys ≡ xs = within_same xs ys (rest_rises x xs rising) (rest_rises y ys above) (rest_within x y xs ys rising above within) (omega arith) in
    elim (there_cases y ys x (within x (first_there x xs))) [
      | inl same ↦ ap (λ (l : List (List ℕ)). y ∷ l) rest ∙ ap (λ (w : List ℕ). w ∷ xs) same
      | inr later ↦ absurd (not_before_itself x (first_before x xs rising x (subst (λ (l : List (List ℕ)). Contains l x) rest later)))
    ]

-- either each item is as asked, or the other thing holds
pub each_or : {A : Type 0} (P : A → Type 0) (Q : Type 0) (xs : List A) → ((x : A) → Contains xs x → P x ⊎ Q) → All P xs ⊎ Q
each_or P Q [] each = inl (All-nil P)
each_or P Q (x ∷ xs) each = elim (each x (first_there x xs)) [
  | inl here ↦ elim (each_or P Q xs (λ y there. each y (rest_there x xs y there))) [
    | inl rest ↦ inl (All-cons P x xs here rest)
    | inr other ↦ inr other
  ]
  | inr other ↦ inr other
]
