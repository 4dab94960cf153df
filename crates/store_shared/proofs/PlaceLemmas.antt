-- The pass of one lock in its place among those of a shared pass.
use Rattle.std.proofs.Common.{◌≡◌, ◌<◌, ◌∙◌, ℕ, List, [], ◌∷◌, Option, Some, None, get_or, length, ap, subst, sym, arith}
use Rattle.std.specs.Prelude.{option_map}
use Rattle.std.proofs.lemmas.List.{get_or-map, get_or_default, length-map}
use Rattle.turn_lock.specs.Passes.{IsPassOf}
use Rattle.turn_lock.specs.declared.lock.TurnLock.{TurnLock}
use Rattle.turn_lock.specs.declared.pass.Pass.{Pass}
use Rattle.store_shared.specs.Parting.{parts_in}
use Rattle.store_shared.specs.SharedPasses.{AreOfLocks, IsOfLock, pass_holds, passes_hold}
use Rattle.store_shared.specs.declared.shared.TurnedSlot.{TurnedSlot}
use Rattle.store_shared.proofs.OrderLemmas.{some_of}

-- what stands in a place that there is, whatever stands for places that there aren't
pub place_is : {X : Type 0} (xs : List X) (k : ℕ) (d x : X) → k < length xs → x ≡ get_or xs k x → get_or xs k d ≡ x
place_is xs k d x inside is = get_or_default xs k d x inside ∙ sym is

module _ {D A : Type 0} (locks : List (TurnLock (TurnedSlot D A))) (passes : List (Option (Pass (TurnedSlot D A)))) (k : ℕ) where
  -- a pass in its place is of its lock
  pub place_lock : k < 64 → length passes ≡ 64 → AreOfLocks locks (passes_hold passes) → (place : Option (Pass (TurnedSlot D A))) → get_or passes k None ≡ place
      → (lock : TurnLock (TurnedSlot D A)) → IsOfLock (get_or locks k lock) (option_map pass_holds place)
  place_lock below long locked place is lock =
      let inside : k < length passes = omega (arith, long, below) in
      subst (λ h. IsOfLock (get_or locks k lock) h) (get_or-map (option_map pass_holds) passes k None None inside ∙ ap (option_map pass_holds) is) (locked k lock below)

  -- it has as many parts as its place tells
  pub place_parts : k < 64 → length passes ≡ 64 → (place : Option (Pass (TurnedSlot D A))) → get_or passes k None ≡ place
      → parts_in (get_or (passes_hold passes) k None) ≡ parts_in (option_map pass_holds place)
  place_parts below long place is =
      let inside : k < length passes = omega (arith, long, below) in
      ap parts_in (get_or-map (option_map pass_holds) passes k None None inside ∙ ap (option_map pass_holds) is)

  -- so there is one
  pub place_there : k < 64 → length locks ≡ 64 → length passes ≡ 64 → AreOfLocks locks (passes_hold passes) → get_or passes k None ≡ None → ⊥
  place_there below many long locked none =
      let inside : k < length locks = omega (arith, many, below) in
      place_lock below long locked None none (some_of locks k inside)

-- passes that hold the same are as many
pub holds_long : {D A : Type 0} (new old : List (Option (Pass (TurnedSlot D A)))) → passes_hold new ≡ passes_hold old → length new ≡ length old
holds_long new old same = sym (length-map new (option_map pass_holds)) ∙ (ap length same ∙ length-map old (option_map pass_holds))

module _ {D A : Type 0} (locks : List (TurnLock (TurnedSlot D A))) (k : ℕ) (place : Option (Pass (TurnedSlot D A)))
    (locked : (lock : TurnLock (TurnedSlot D A)) → IsOfLock (get_or locks k lock) (option_map pass_holds place)) where
  -- a pass that is of its lock is there
  pub locked_there : length locks ≡ 64 → place ≡ None → ⊥
  locked_there many none =
      let first = some_of locks 0 (omega (arith, many)) in
      subst (λ p. IsOfLock (get_or locks k first) (option_map pass_holds p)) none (locked first)

  -- and of the lock that stands in its place
  pub locked_of : (lock : TurnLock (TurnedSlot D A)) (pass : Pass (TurnedSlot D A)) → lock ≡ get_or locks k lock → place ≡ Some pass → IsPassOf lock pass
  locked_of lock pass found is =
      subst (λ l. IsOfLock l (Some (pass_holds pass))) (sym found) (subst (λ p. IsOfLock (get_or locks k lock) (option_map pass_holds p)) is (locked lock))
