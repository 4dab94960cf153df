-- Facts of each element of a list by recursion, which lemmas use in place of std's words by places.
use Rattle.std.proofs.Common.{ℕ, ◌<◌, List, [], ◌∷◌, length, get_or, zero, suc, arith}
use Rattle.std.specs.Prelude.{All, AllPairs}

-- P holds of each
abbrev pub Each : (ℕ → Type 0) → List ℕ → Type 0
Each P [] = Unit {0}
Each P (x ∷ xs) = P x × Each P xs

-- R holds of each and each later one
abbrev pub EachPair : (ℕ → ℕ → Type 0) → List ℕ → Type 0
EachPair R [] = Unit {0}
EachPair R (x ∷ xs) = Each (R x) xs × EachPair R xs

-- each is a byte
abbrev pub Bytes : List ℕ → Type 0
Bytes xs = Each (λ x. x < 256) xs

-- from the same by places
pub Each-from_All : (P : ℕ → Type 0) (xs : List ℕ) → All P xs → Each P xs
Each-from_All P [] all = tt
Each-from_All P (x ∷ xs) all = (all 0 0 (omega arith), Each-from_All P xs (λ k d l. all (suc k) d (omega arith)))

-- and by places from the same
pub All-from_Each : (P : ℕ → Type 0) (xs : List ℕ) → Each P xs → (k d : ℕ) → k < length xs → P (get_or xs k d)
All-from_Each P [] each k d l = absurd (omega arith)
All-from_Each P (x ∷ xs) each zero d l = each.0
All-from_Each P (x ∷ xs) each (suc k) d l = All-from_Each P xs each.1 k d (omega arith)

-- pairs, from the same by places
pub EachPair-from_AllPairs : (R : ℕ → ℕ → Type 0) (xs : List ℕ) → AllPairs R xs → EachPair R xs
EachPair-from_AllPairs R [] all = tt
EachPair-from_AllPairs R (x ∷ xs) all = (
  Each-from_All (R x) xs (λ k d l. all 0 (suc k) d (omega arith) (omega arith)),
  EachPair-from_AllPairs R xs (λ i j d below l. all (suc i) (suc j) d (omega arith) (omega arith)),
)
