-- Drives that are shared one after another.
use Rattle.std.proofs.Common.{◌≡◌, ◌<◌, ◌≤◌, ◌+◌, ◌∙◌, ℕ, zero, suc, List, [], ◌∷◌, ap, arith, get_or, length, map, refl, set, subst, sym}
use Rattle.std.proofs.Math.Decide.{ℕ_discrete}
use Rattle.std.proofs.Math.Logic.{dite}
use Rattle.std.proofs.lemmas.List.{get_or-set_other, get_or-set_same}
use Rattle.drive_base.specs.declared.drive.Drive.{Ghosts}
use Rattle.ostore.specs.Sharing.{IsShared}

-- a list in which a place has an element of the same image has the same images
pub map_set : {X Y : Type 0} (f : X → Y) (xs : List X) (n : ℕ) (x d : X) → n < length xs → f x ≡ f (get_or xs n d) → map f (set xs n x) ≡ map f xs
map_set f [] n x d inside same = absurd (omega (arith, inside))
map_set f (y ∷ xs) zero x d inside same = ap (λ z. z ∷ map f xs) same
map_set f (y ∷ xs) (suc n) x d inside same = ap (λ zs. f y ∷ zs) (map_set f xs n x d (omega (arith, inside)) same)

module _ {D : Type 0} (ghosts : Ghosts D) where
  -- one more of these is shared
  pub shared_more : (xs : List D) (n : ℕ) (x : D) → n < length xs → ((k : ℕ) (d : D) → k < n → IsShared ghosts (get_or xs k d)) → IsShared ghosts x
      → (k : ℕ) (d : D) → k < n + 1 → IsShared ghosts (get_or (set xs n x) k d)
  shared_more xs n x inside before one k d low = dite (ℕ_discrete k n)
      (λ same. subst (λ m. IsShared ghosts (get_or (set xs n x) m d)) (sym same) (subst (IsShared ghosts) (sym (get_or-set_same xs n x d inside)) one))
      (λ other. subst (IsShared ghosts) (sym (get_or-set_other xs n k x d other)) (before k d (omega (arith, low, other))))
