-- The slots and drives of a pass are those of a store, in order.
use Rattle.std.proofs.Common.{◌≡◌, ◌<◌, ◌∙◌, ◌++◌, ℕ, List, [], ◌∷◌, Option, drop, length, slice_index_or, take, ap, sym, arith}
use Rattle.std.proofs.Math.Seq.{take-append_seam}
use Rattle.std.proofs.lemmas.List.{get_or-map, length-map}
use Rattle.audit_trail.specs.declared.entry.Entry.{Entry}
use Rattle.drive_base.specs.View.{DriveView}
use Rattle.drive_base.specs.declared.plan.SetPlan.{SetPlan}
use Rattle.slot_core.specs.Views.{numbers_of}
use Rattle.slot_core.specs.declared.slot.Slot.{Slot}
use Rattle.op_steps.specs.Steps.{IsSlotAt}
use Rattle.op_steps.specs.Store.{AreInOrder, SlotSeen, slot_seen, slots_seen}
use Rattle.store_shared.specs.Passes.{SlotsFit}

-- some element of a list that has one
pub some_of : {X : Type 0} (xs : List X) (k : ℕ) → k < length xs → X
some_of [] k inside = absurd (omega (arith, inside))
some_of (x ∷ xs) k inside = x

module _ {D A : Type 0} (entries : A → Option (List Entry)) (count : A → ℕ) where
  -- what is seen of a slot in its place
  seen_is : (slots : List (Slot D A)) (k : ℕ) (d : SlotSeen D) (e : Slot D A) → k < length slots
      → slice_index_or (slots_seen entries count slots) k d ≡ slot_seen entries count (slice_index_or slots k e)
  seen_is slots k d e inside = get_or-map (slot_seen entries count) slots k e d inside

  -- so it is the slot there
  pub seen_at : (slots : List (Slot D A)) (k : ℕ) (e : Slot D A) → k < length slots
      → IsSlotAt (slots_seen entries count slots) k (slot_seen entries count (slice_index_or slots k e))
  seen_at slots k e inside =
      let long = length-map slots (slot_seen entries count) in
      (omega (arith, long, inside), λ d. seen_is slots k d e inside)

  pub slots_fit : (set : SetPlan) (slots : List (Slot D A)) → length slots ≡ 64
      → ((k : ℕ) (d : Slot D A) → k < length slots → (numbers_of (slice_index_or slots k d)).index ≡ k)
      → ((k : ℕ) (d : Slot D A) → k < length slots → (numbers_of (slice_index_or slots k d)).set ≡ set) → SlotsFit set (slots_seen entries count slots)
  slots_fit set slots counted index of_set = record {
    count = length-map slots (slot_seen entries count) ∙ counted;
    index = λ k d inside.
        let long = length-map slots (slot_seen entries count) in
        let within : k < length slots = omega (arith, long, inside) in
        let e = some_of slots k within in
        ap (λ (s : SlotSeen D). s.numbers.index) (seen_is slots k d e within) ∙ index k e within;
    set_is = λ k d inside.
        let long = length-map slots (slot_seen entries count) in
        let within : k < length slots = omega (arith, long, inside) in
        let e = some_of slots k within in
        ap (λ (s : SlotSeen D). s.numbers.set) (seen_is slots k d e within) ∙ of_set k e within;
  }

  module _ (set : SetPlan) (slots : List (Slot D A)) (fit : SlotsFit set (slots_seen entries count slots)) where
    pub fit_count : length slots ≡ 64
    fit_count = sym (length-map slots (slot_seen entries count)) ∙ fit.count

    pub fit_index : (k : ℕ) (d : Slot D A) → k < length slots → (numbers_of (slice_index_or slots k d)).index ≡ k
    fit_index k d inside =
        let long = length-map slots (slot_seen entries count) in
        let e = slot_seen entries count d in
        ap (λ (s : SlotSeen D). s.numbers.index) (sym (seen_is slots k e d inside)) ∙ fit.index k e (omega (arith, long, inside))

    pub fit_set : (k : ℕ) (d : Slot D A) → k < length slots → (numbers_of (slice_index_or slots k d)).set ≡ set
    fit_set k d inside =
        let long = length-map slots (slot_seen entries count) in
        let e = slot_seen entries count d in
        ap (λ (s : SlotSeen D). s.numbers.set) (sym (seen_is slots k e d inside)) ∙ fit.set_is k e (omega (arith, long, inside))

-- with as many data drives as the set has drives they are those of a store, in order
pub fit_order : {D : Type 0} (set : SetPlan) (slots : List (SlotSeen D)) (disks : List DriveView) → SlotsFit set slots → length disks ≡ set.drives
    → AreInOrder set slots disks
fit_order set slots disks fit drives = record { count = fit.count; index = fit.index; set_is = fit.set_is; drives = drives }

pub order_fit : {D : Type 0} (set : SetPlan) (slots : List (SlotSeen D)) (disks : List DriveView) → AreInOrder set slots disks → SlotsFit set slots
order_fit set slots disks order = record { count = order.count; index = order.index; set_is = order.set_is }

-- what was written into the whole slice of a vector is what the vector has
pub whole_slice : {X : Type 0} (new old : List X) (n : ℕ) → length new ≡ n → take n (new ++ drop (length new) old) ≡ new
whole_slice new old n long = ap (λ m. take m (new ++ drop (length new) old)) (sym long) ∙ take-append_seam new (drop (length new) old)
