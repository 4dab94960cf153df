-- Workers: what holds of all of them holds of those that were picked, and how their doors end.
use Rattle.std.proofs.Common.{◌≡◌, ◌⊎◌, ◌∙◌, ◌+◌, ◌<◌, ℕ, List, [], ◌∷◌, ◌++◌, ap, inl, inr, map, refl, reverse, subst, sym, length}
use Rattle.std.proofs.lemmas.Bool.{false≢true}
use Rattle.std.specs.Prelude.{All, Bool, IsTrue, true, false, not, ◌||◌, if◌then◌else◌}
use Rattle.std.specs.List.{AllByRecursion}
use Rattle.std.proofs.lemmas.List.{append_assoc, map-append, reverse-append}
use Rattle.std.proofs.lemmas.List.Elements.{All-cons, All-head, All-nil, All-tail}
use Rattle.io_base.specs.declared.door.Door.{Ghosts as DoorGhosts}
use Rattle.io_base.specs.Works.{CountsLeft, picked}
use Rattle.ostore.specs.Workers.{AnyRose, DoorRose, IsStill, Worker}

module _ {X : Type 0} (P : X → Type 0) where
  -- what holds of all holds of those that are picked
  pub picked_some : (test : ℕ → Bool) (n : ℕ) (xs : List X) → All P xs → All P (picked test n xs)
  picked_some test n [] all = All-nil P
  picked_some test n (x ∷ xs) all =
      let rest = picked_some test (n + 1) xs (All-tail P x xs all) in
      elim (test n) as (λ b. All P (if b then x ∷ picked test (n + 1) xs else picked test (n + 1) xs)) [
        | true ↦ All-cons P x (picked test (n + 1) xs) (All-head P x xs all) rest
        | false ↦ rest
      ]

  -- what holds of the image of each holds of each
  pub all_of_map : {Y : Type 0} (f : Y → X) (ys : List Y) → All P (map f ys) → All (λ y. P (f y)) ys
  all_of_map f [] all = All-nil (λ y. P (f y))
  all_of_map f (y ∷ ys) all = All-cons (λ y. P (f y)) y ys (All-head P (f y) (map f ys) all) (all_of_map f ys (All-tail P (f y) (map f ys) all))

  -- what holds of all of a list holds of its last element, and of those in front of it
  pub all_last : (xs : List X) (x : X) → All P (xs ++ x ∷ []) → P x
  all_last [] x all = All-head P x [] all
  all_last (y ∷ xs) x all = all_last xs x (All-tail P y (xs ++ x ∷ []) all)

  pub all_front : (xs : List X) (x : X) → All P (xs ++ x ∷ []) → All P xs
  all_front [] x all = All-nil P
  all_front (y ∷ xs) x all = All-cons P y xs (All-head P y (xs ++ x ∷ []) all) (all_front xs x (All-tail P y (xs ++ x ∷ []) all))

  -- what holds of each holds by recursion
  pub by_recursion : (xs : List X) → All P xs → AllByRecursion P xs
  by_recursion [] all = _
  by_recursion (x ∷ xs) all = (All-head P x xs all, by_recursion xs (All-tail P x xs all))

-- two facts of each element
pub both_by_recursion : {X : Type 0} (P Q S : X → Type 0) (xs : List X) → ((x : X) → P x → Q x → S x) → AllByRecursion P xs → AllByRecursion Q xs → AllByRecursion S xs
both_by_recursion P Q S [] both ps qs = _
both_by_recursion P Q S (x ∷ xs) both ps qs = (both x ps.0 qs.0, both_by_recursion P Q S xs both ps.1 qs.1)

-- picking goes with a function
pub picked_map : {X Y : Type 0} (f : X → Y) (test : ℕ → Bool) (n : ℕ) (xs : List X) → map f (picked test n xs) ≡ picked test n (map f xs)
picked_map f test n [] = refl
picked_map f test n (x ∷ xs) =
    let rest = picked_map f test (n + 1) xs in
    elim (test n) as (λ b. map f (if b then x ∷ picked test (n + 1) xs else picked test (n + 1) xs)
    ≡ (if b then f x ∷ picked test (n + 1) (map f xs) else picked test (n + 1) (map f xs))) [
      | true ↦ ap (λ ys. f x ∷ ys) rest
      | false ↦ rest
    ]

-- the last element of a list goes over to the front of what is behind it in reverse
pub last_over : {X Y : Type 0} (f : Y → X) (front : List X) (y : Y) (ys : List Y) → (front ++ f y ∷ []) ++ reverse (map f ys) ≡ front ++ reverse (map f (ys ++ y ∷ []))
last_over f front y ys = append_assoc front (f y ∷ []) (reverse (map f ys))
    ∙ ap (λ l. front ++ l) (sym (ap reverse (map-append f ys (y ∷ [])) ∙ reverse-append (map f ys) (f y ∷ [])))

-- the first element of those behind a list in reverse is the last of all
pub first_behind : {X : Type 0} (front xs : List X) (x : X) → (front ++ reverse xs) ++ x ∷ [] ≡ front ++ reverse (x ∷ xs)
first_behind front xs x = append_assoc front (reverse xs) (x ∷ []) ∙ ap (λ l. front ++ l) (sym (reverse-append (x ∷ []) xs))

-- one map behind another
pub map_both : {X Y Z : Type 0} (f : Y → Z) (g : X → Y) (xs : List X) → map f (map g xs) ≡ map (λ x. f (g x)) xs
map_both f g [] = refl
map_both f g (x ∷ xs) = ap (λ ys. f (g x) ∷ ys) (map_both f g xs)

-- how many are left is counted so whatever is seen of them
pub counts_map : {X Y : Type 0} (f : X → Y) (xs : List X) (old new : ℕ) → CountsLeft xs old new → CountsLeft (map f xs) old new
counts_map f [] old new counts = counts
counts_map f (x ∷ xs) old new counts = counts

module _ {O S T K C P : Type 0} (door : DoorGhosts O S T) where
  -- the door of some worker failed, or that of one more
  pub failed_more : (a b : Bool) (worker : Worker K C P O) (gone : List (Worker K C P O)) → (IsTrue a → AnyRose door gone) → (IsTrue b → DoorRose door worker)
      → IsTrue (a || b) → AnyRose door (worker ∷ gone)
  failed_more true b worker gone any one or = inr (any refl)
  failed_more false b worker gone any one or = inl (one or)

  -- none did
  pub still_more : (a b : Bool) (worker : Worker K C P O) (gone : List (Worker K C P O)) → ((IsTrue a → ⊥) → AllByRecursion (IsStill door) gone)
      → ((IsTrue b → ⊥) → IsStill door worker) → (IsTrue (a || b) → ⊥) → AllByRecursion (IsStill door) (worker ∷ gone)
  still_more true b worker gone all one none = absurd (none refl)
  still_more false b worker gone all one none = (one none, all false≢true)
