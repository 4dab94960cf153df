-- Two byte strings are one, or they are not, and what follows for each of several.
use Rattle.std.proofs.Common.{◌≡◌, ◌≢◌, ◌⊎◌, ℕ, zero, suc, ◌<◌, List, [], ◌∷◌, subst, refl, inl, inr, arith}
use Rattle.std.proofs.lemmas.Bool.{cases_eq, cases_lt}

pub one_or_two : (xs ys : List ℕ) → (xs ≡ ys) ⊎ (xs ≢ ys)
one_or_two [] [] = inl refl
one_or_two [] (y ∷ ys) = inr (λ same. cc)
one_or_two (x ∷ xs) [] = inr (λ same. cc)
one_or_two (x ∷ xs) (y ∷ ys) = elim (cases_eq x y) [
  | inl first ↦ elim (one_or_two xs ys) [
    | inl rest ↦ inl (cc)
    | inr differ ↦ inr (λ same. let rest : xs ≡ ys = cc in differ rest)
  ]
  | inr differ ↦ inr (λ same. let first : x ≡ y = cc in differ first)
]

-- each of so many holds, or something else does
pub each_or : (A : ℕ → Type 0) (C : Type 0) (n : ℕ) → ((j : ℕ) → j < n → A j ⊎ C) → ((j : ℕ) → j < n → A j) ⊎ C
each_or A C zero cases = inl (λ j low. absurd (omega arith))
each_or A C (suc n) cases = elim (each_or A C n (λ j low. cases j (omega arith))) [
  | inl before ↦ elim (cases n (omega arith)) [
    | inl last ↦ inl (λ j low. elim (cases_lt j n) [
      | inl within ↦ before j within
      | inr past ↦ let at : n ≡ j = omega arith in subst A at last
    ])
    | inr other ↦ inr other
  ]
  | inr other ↦ inr other
]
