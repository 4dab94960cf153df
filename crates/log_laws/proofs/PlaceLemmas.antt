-- The slots at the places of a list: one of them is changed, and the others stay.
use Rattle.std.proofs.Common.{◌≡◌, ◌≢◌, ◌<◌, ◌∙◌, ℕ, zero, suc, List, [], ◌∷◌, length, slice_index_or, slice_set, refl, sym, arith}
use Rattle.std.proofs.lemmas.List.{get_or-set_other, get_or-set_same, length-set, get_or_default}
use Rattle.op_steps.specs.Steps.{IsSlotAt}
use Rattle.op_steps.specs.Store.{SlotSeen}

-- what stands at a place is one slot
pub slot_is_one : {D : Type 0} (slots : List (SlotSeen D)) (k : ℕ) (a b : SlotSeen D) → IsSlotAt slots k a → IsSlotAt slots k b → a ≡ b
slot_is_one slots k a b one two = sym (one.1 a) ∙ two.1 a

-- some slot stands at each place of a list
pub slot_at : {D : Type 0} (slots : List (SlotSeen D)) (k : ℕ) → k < length slots → (was : SlotSeen D) × IsSlotAt slots k was
slot_at [] k inside = absurd (omega (arith, inside))
slot_at (slot ∷ more) zero inside = (slot, (omega arith, λ d. refl))
slot_at (slot ∷ more) (suc k) inside = (let x = slot_at more k (omega (arith, inside)) in (x.0, (let low = x.1.0 in omega (arith, low), λ d. x.1.1 d)))

-- a slot that is put in a place stands there, and the others stay
pub set_same : {D : Type 0} (slots : List (SlotSeen D)) (k : ℕ) (now : SlotSeen D) → k < length slots → IsSlotAt (slice_set slots k now) k now
set_same slots k now inside = (let same = length-set slots k now in omega (arith, same, inside), λ d. get_or-set_same slots k now d inside)

pub set_other : {D : Type 0} (slots : List (SlotSeen D)) (k j : ℕ) (now was : SlotSeen D) → j ≢ k → IsSlotAt (slice_set slots k now) j was
    → IsSlotAt slots j was
set_other slots k j now was other is =
    (let same = length-set slots k now in omega (arith, same, is.0), λ d. sym (get_or-set_other slots k j now d other) ∙ is.1 d)

-- a slot stands at each place of the list
pub there : {D : Type 0} (slots : List (SlotSeen D)) (k : ℕ) (d : SlotSeen D) → k < length slots → IsSlotAt slots k (slice_index_or slots k d)
there slots k d inside = (inside, λ e. get_or_default slots k e d inside)
