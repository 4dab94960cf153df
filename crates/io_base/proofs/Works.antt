-- Lemmas on works kept apart.
use Rattle.std.proofs.Common.{◌≡◌, ◌+◌, ◌<◌, ℕ, suc, List, [], ◌∷◌, ◌++◌, length, map, slice_index_or, refl, sym, ap, ◌∙◌, arith}
use Rattle.std.specs.Prelude.{Bool, true, false, not, if◌then◌else◌}
use Rattle.std.proofs.lemmas.List.{length-map}
use Rattle.io_base.specs.Works.{picked, Apart}

-- one element more, at the place m
pub picked-push : {X : Type 0} (test : ℕ → Bool) (n : ℕ) (xs : List X) (x : X) (m : ℕ) → m ≡ n + length xs
    → picked test n (xs ++ x ∷ []) ≡ picked test n xs ++ (if test m then x ∷ [] else [])
picked-push test n [] x m place = ap (λ k. if test k then x ∷ [] else []) (omega (arith, place))
picked-push test n (y ∷ xs) x m place =
    let rest : picked test (n + 1) (xs ++ x ∷ []) ≡ picked test (n + 1) xs ++ (if test m then x ∷ [] else []) =
    picked-push test (n + 1) xs x m (omega (arith, place)) in
    elim (test n) as (λ b. (if b then y ∷ picked test (n + 1) (xs ++ x ∷ []) else picked test (n + 1) (xs ++ x ∷ []))
    ≡ (if b then y ∷ picked test (n + 1) xs else picked test (n + 1) xs) ++ (if test m then x ∷ [] else [])) [
      | true ↦ ap (λ zs. y ∷ zs) rest
      | false ↦ rest
    ]

-- an element that passes is added, and one that doesn't is not
pub picked-passes : {X : Type 0} (test : ℕ → Bool) (xs : List X) (x : X) → test (length xs) ≡ true
    → picked test 0 (xs ++ x ∷ []) ≡ picked test 0 xs ++ x ∷ []
picked-passes test xs x passes =
    picked-push test 0 xs x (length xs) (omega arith) ∙ ap (λ b. picked test 0 xs ++ (if b then x ∷ [] else [])) passes

pub picked-stays : {X : Type 0} (test : ℕ → Bool) (xs : List X) (x : X) → test (length xs) ≡ false
    → picked test 0 (xs ++ x ∷ []) ≡ picked test 0 xs ++ []
picked-stays test xs x stays =
    picked-push test 0 xs x (length xs) (omega arith) ∙ ap (λ b. picked test 0 xs ++ (if b then x ∷ [] else [])) stays

-- those that pass and those that don't are as many as all
pub picked-count : {X Y : Type 0} (f : X → Y) (test : ℕ → Bool) (n : ℕ) (xs : List X)
    → length (picked test n (map f xs)) + length (picked (λ k. not (test k)) n xs) ≡ length xs
picked-count f test n [] = refl
picked-count f test n (x ∷ xs) =
    let rest = picked-count f test (n + 1) xs in
    elim (test n) as (λ b. length (if b then f x ∷ picked test (n + 1) (map f xs) else picked test (n + 1) (map f xs))
    + length (if not b then x ∷ picked (λ k. not (test k)) (n + 1) xs else picked (λ k. not (test k)) (n + 1) xs) ≡ length (x ∷ xs)) [
      | true ↦ omega (arith, rest)
      | false ↦ omega (arith, rest)
    ]

-- works kept apart are as many as they were
pub Apart-count : {W K : Type 0} (kept : W → K) (works done left : List W) → Apart kept works done left
    → length done + length left ≡ length works
Apart-count kept works done left apart =
    let count : length (picked apart.ran 0 (map kept works)) + length (picked (λ n. not (apart.ran n)) 0 works) ≡ length works =
    picked-count kept apart.ran 0 works in
    let first : length done ≡ length (picked apart.ran 0 (map kept works)) =
    sym (length-map done kept) ∙ ap length apart.done_kept in
    let second : length left ≡ length (picked (λ n. not (apart.ran n)) 0 works) = ap length apart.left_same in
    omega (arith, count, first, second)

-- all of them pass, or none
pub picked-all : {X : Type 0} (n : ℕ) (xs : List X) → picked (λ _. true) n xs ≡ xs
picked-all n [] = refl
picked-all n (x ∷ xs) = ap (λ ys. x ∷ ys) (picked-all (n + 1) xs)

pub picked-none : {X : Type 0} (n : ℕ) (xs : List X) → picked (λ _. false) n xs ≡ []
picked-none n [] = refl
picked-none n (x ∷ xs) = picked-none (n + 1) xs

-- all were done
pub Apart-done : {W K : Type 0} (kept : W → K) (works done left : List W) → map kept done ≡ map kept works → left ≡ []
    → Apart kept works done left
Apart-done kept works done left same none = record {
  ran = λ _. true;
  done_kept = same ∙ sym (picked-all 0 (map kept works));
  left_same = none ∙ sym (picked-none 0 works);
}

-- none was begun
pub Apart-left : {W K : Type 0} (kept : W → K) (works done left : List W) → done ≡ [] → left ≡ works → Apart kept works done left
Apart-left kept works done left none same = record {
  ran = λ _. false;
  done_kept = ap (map kept) none ∙ sym (picked-none 0 (map kept works));
  left_same = same ∙ sym (picked-all 0 works);
}

-- lists that a function shows alike, place by place
pub map-alike : {X Y : Type 0} (f : X → Y) (xs ys : List X) → length ys ≡ length xs
    → ((i : ℕ) (d : X) → i < length xs → f (slice_index_or ys i d) ≡ f (slice_index_or xs i d)) → map f ys ≡ map f xs
map-alike f [] [] len each = refl
map-alike f [] (y ∷ ys) len each = absurd (omega (arith, len))
map-alike f (x ∷ xs) [] len each = absurd (omega (arith, len))
map-alike f (x ∷ xs) (y ∷ ys) len each =
    ap (λ z. z ∷ map f ys) (each 0 x (omega arith))
    ∙ ap (λ zs. f x ∷ zs) (map-alike f xs ys (omega (arith, len)) (λ i d within. each (suc i) d (omega (arith, within))))
