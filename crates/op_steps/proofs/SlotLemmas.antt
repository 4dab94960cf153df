-- The slots of a store stand in order, also where one of them goes on.
use Rattle.std.proofs.Common.{◌≡◌, ◌∙◌, ℕ, List, length, slice_index_or, slice_set, inl, inr, sym, ap, subst, arith}
use Rattle.std.proofs.lemmas.List.{get_or-set_other, get_or-set_same, length-set}
use Rattle.std.proofs.lemmas.Bool.{cases_eq}
use Rattle.drive_base.specs.View.{DriveView}
use Rattle.drive_base.specs.declared.plan.SetPlan.{SetPlan}
use Rattle.slot_core.specs.Numbers.{NumbersMove}
use Rattle.op_steps.specs.Steps.{IsSlotAt}
use Rattle.op_steps.specs.Store.{AreInOrder, SlotSeen}

-- the numbers of a slot in order
pub order_index : {D : Type 0} (plan : SetPlan) (slots : List (SlotSeen D)) (disks : List DriveView) (k : ℕ) (was : SlotSeen D)
    → AreInOrder plan slots disks → IsSlotAt slots k was → was.numbers.index ≡ k
order_index plan slots disks k was order is = ap (λ (s : SlotSeen _). s.numbers.index) (sym (is.1 was)) ∙ order.index k was is.0

pub order_set : {D : Type 0} (plan : SetPlan) (slots : List (SlotSeen D)) (disks : List DriveView) (k : ℕ) (was : SlotSeen D)
    → AreInOrder plan slots disks → IsSlotAt slots k was → was.numbers.set ≡ plan
order_set plan slots disks k was order is = ap (λ (s : SlotSeen _). s.numbers.set) (sym (is.1 was)) ∙ order.set_is k was is.0

-- slots stay in order where one of them goes on
pub order_stays : {D : Type 0} (plan : SetPlan) (slots : List (SlotSeen D)) (old new : List DriveView) (k : ℕ) (was now : SlotSeen D)
    → AreInOrder plan slots old → IsSlotAt slots k was → NumbersMove was.numbers now.numbers → length new ≡ length old
    → AreInOrder plan (slice_set slots k now) new
order_stays plan slots old new k was now order is moves long = record {
  count = length-set slots k now ∙ order.count;
  index = λ j d inside. elim (cases_eq j k) [
    | inl same ↦ subst (λ i. (slice_index_or (slice_set slots k now) i d).numbers.index ≡ i) (sym same)
        (ap (λ (s : SlotSeen _). s.numbers.index) (get_or-set_same slots k now d is.0) ∙ (moves.index ∙ order_index plan slots old k was order is))
    | inr other ↦ ap (λ (s : SlotSeen _). s.numbers.index) (get_or-set_other slots k j now d other)
        ∙ order.index j d (let same = length-set slots k now in omega (arith, same, inside))
  ];
  set_is = λ j d inside. elim (cases_eq j k) [
    | inl same ↦ subst (λ i. (slice_index_or (slice_set slots k now) i d).numbers.set ≡ plan) (sym same)
        (ap (λ (s : SlotSeen _). s.numbers.set) (get_or-set_same slots k now d is.0) ∙ (moves.set ∙ order_set plan slots old k was order is))
    | inr other ↦ ap (λ (s : SlotSeen _). s.numbers.set) (get_or-set_other slots k j now d other)
        ∙ order.set_is j d (let same = length-set slots k now in omega (arith, same, inside))
  ];
  drives = long ∙ order.drives;
}
