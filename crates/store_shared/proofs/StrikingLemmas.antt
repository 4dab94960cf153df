-- Slots that are struck one after another, and what stays of them.
use Rattle.std.proofs.Common.{◌≡◌, ◌<◌, ◌+◌, ◌∙◌, ℕ, Bool, List, get_or, length, set, sym, ap, subst, subst₂, arith}
use Rattle.std.proofs.Math.Decide.{ℕ_discrete}
use Rattle.std.proofs.Math.Logic.{dite}
use Rattle.std.proofs.lemmas.List.{get_or-set_other, get_or-set_same}
use Rattle.drive_base.specs.declared.drive.Drive.{Ghosts}
use Rattle.drive_base.specs.declared.plan.SetPlan.{SetPlan}
use Rattle.slot_core.specs.Views.{SlotNumbers, numbers_of}
use Rattle.slot_core.specs.declared.slot.Slot.{Slot}
use Rattle.store_shared.specs.Striking.{AreStruckAt, SlotIsStruck}

-- what holds between an element and another one holds at a place, where it is put in the place of the first
pub at_place : {X : Type 0} (xs : List X) (n : ℕ) (x item : X) (P : X → X → Type 0) → n < length xs → ((d : X) → get_or xs n d ≡ item) → P item x
    → (d : X) → P (get_or xs n d) (get_or (set xs n x) n d)
at_place xs n x item P inside was holds d = subst₂ P (sym (was d)) (sym (get_or-set_same xs n x d inside)) holds

module _ {D A T : Type 0} (ghosts : Ghosts D) (befalls : T → D → Bool → D → Type 0) (index : ℕ) (given : T) where
  -- one more of these is struck
  pub struck_more : (old now : List (Slot D A)) (n : ℕ) (x : Slot D A) → n < length now
      → ((k : ℕ) (d : Slot D A) → k < n → SlotIsStruck ghosts befalls index k given (get_or old k d) (get_or now k d))
      → ((d : Slot D A) → SlotIsStruck ghosts befalls index n given (get_or old n d) x)
      → (k : ℕ) (d : Slot D A) → k < n + 1 → SlotIsStruck ghosts befalls index k given (get_or old k d) (get_or (set now n x) k d)
  struck_more old now n x inside before one k d low = dite (ℕ_discrete k n)
      (λ same. subst (λ m. SlotIsStruck ghosts befalls index m given (get_or old m d) (get_or (set now n x) m d)) (sym same)
      (subst (SlotIsStruck ghosts befalls index n given (get_or old n d)) (sym (get_or-set_same now n x d inside)) (one d)))
      (λ other. subst (SlotIsStruck ghosts befalls index k given (get_or old k d)) (sym (get_or-set_other now n k x d other))
      (before k d (omega (arith, low, other))))

  module _ (old new : List (Slot D A)) (struck : AreStruckAt ghosts befalls index given old new) where
    -- struck slots have the numbers that they had
    struck_numbers : (k : ℕ) (d : Slot D A) → k < length new → numbers_of (get_or new k d) ≡ numbers_of (get_or old k d)
    struck_numbers k d inside = (struck.each k d (let same = struck.count in omega (arith, same, inside))).numbers

    -- so they have their indices and their set
    pub struck_index : ((k : ℕ) (d : Slot D A) → k < length old → (numbers_of (get_or old k d)).index ≡ k)
        → (k : ℕ) (d : Slot D A) → k < length new → (numbers_of (get_or new k d)).index ≡ k
    struck_index is k d inside =
        ap (λ (n : SlotNumbers). n.index) (struck_numbers k d inside) ∙ is k d (let same = struck.count in omega (arith, same, inside))

    pub struck_set : (plan : SetPlan) → ((k : ℕ) (d : Slot D A) → k < length old → (numbers_of (get_or old k d)).set ≡ plan)
        → (k : ℕ) (d : Slot D A) → k < length new → (numbers_of (get_or new k d)).set ≡ plan
    struck_set plan is k d inside =
        ap (λ (n : SlotNumbers). n.set) (struck_numbers k d inside) ∙ is k d (let same = struck.count in omega (arith, same, inside))
