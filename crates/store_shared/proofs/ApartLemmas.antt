-- A shared desk that is taken apart.
use Rattle.std.proofs.Common.{◌≡◌, ◌<◌, ◌≤◌, ◌∙◌, ℕ, List, Option, Some, None, get_or, length, ap, subst, sym, arith}
use Rattle.std.specs.Prelude.{option_map}
use Rattle.std.proofs.lemmas.List.{get_or-map, get_or_default, length-map}
use Rattle.slot_core.specs.Views.{numbers_of}
use Rattle.slot_core.specs.declared.slot.Slot.{Slot}
use Rattle.turn_lock.specs.Passes.{made_with}
use Rattle.turn_lock.specs.declared.lock.TurnLock.{TurnLock}
use Rattle.turn_lock.specs.declared.pass.Pass.{Pass}
use Rattle.store_shared.specs.Parting.{AreClosed, HasAllParts, IsApart, IsClosedAt, LacksParts, LacksSome, parts_in}
use Rattle.store_shared.specs.SharedPasses.{drives_of, locks_of, pass_holds, passes_hold, passes_in, set_of_desk, shared_holds}
use Rattle.store_shared.specs.Turned.{SlotName, name_of}
use Rattle.store_shared.specs.declared.pass.PassParts.{PassParts}
use Rattle.store_shared.specs.declared.shared.SharedDesk.{SharedDesk}
use Rattle.store_shared.specs.declared.shared.SharedPass.{SharedPass}
use Rattle.store_shared.specs.declared.shared.TurnedSlot.{TurnedSlot}
use Rattle.store_shared.proofs.OrderLemmas.{some_of}
use Rattle.store_shared.proofs.TurnedLemmas.{desk_name}

module _ {D A : Type 0} where
  -- what a closed lock tells
  closed_parts : (lock : TurnLock (TurnedSlot D A)) (place : Option (Pass (TurnedSlot D A))) (slot : Slot D A) → IsClosedAt lock place slot
      → parts_in (option_map pass_holds place) ≡ 65536
  closed_parts lock None slot closed = absurd closed
  closed_parts lock (Some pass) slot closed = closed.parts

  closed_name : (lock : TurnLock (TurnedSlot D A)) (place : Option (Pass (TurnedSlot D A))) (slot : Slot D A) → IsClosedAt lock place slot
      → name_of (record { slot = slot }) ≡ name_of (made_with lock)
  closed_name lock None slot closed = absurd closed
  closed_name lock (Some pass) slot closed = closed.name

module _ {R D A G : Type 0} (desk : SharedDesk R D A G) (pass : SharedPass D A) (slots : List (Slot D A))
    (closed : AreClosed (locks_of desk) (passes_in pass) slots) where
  -- each slot is that of its place, of the desk's set
  slot_named : (k : ℕ) (d : Slot D A) → k < 64 → name_of (record { slot = get_or slots k d }) ≡ record { set = set_of_desk desk; index = k }
  slot_named k d below =
      let many = desk.count in
      let inside : k < length (locks_of desk) = omega (arith, many, below) in
      let free = some_of (locks_of desk) k inside in
      let lock = get_or (locks_of desk) k free in
      closed_name lock (get_or (passes_in pass) k None) (get_or slots k d) (closed.each k free d below)
      ∙ desk_name (set_of_desk desk) (locks_of desk) k lock many below desk.index desk.of_set (get_or_default (locks_of desk) k free lock inside)

  all_parts : HasAllParts (shared_holds pass)
  all_parts k below =
      let many = desk.count in
      let full = closed.count in
      let long = pass.count in
      let free = some_of (locks_of desk) k (omega (arith, many, below)) in
      let d = some_of slots k (omega (arith, full, below)) in
      ap parts_in (get_or-map (option_map pass_holds) (passes_in pass) k None None (omega (arith, long, below)))
      ∙ closed_parts (get_or (locks_of desk) k free) (get_or (passes_in pass) k None) (get_or slots k d) (closed.each k free d below)

  -- so the desk is taken apart
  pub is_apart : (parts : PassParts D A) → parts.set ≡ set_of_desk desk → parts.slots.items ≡ slots → parts.disks.items ≡ drives_of pass
      → IsApart desk pass parts
  is_apart parts of_set are drives = record {
    set = of_set;
    parts_are = all_parts;
    index = λ k d below. ap (λ s. (numbers_of (get_or s k d)).index) are ∙ ap (λ (n : SlotName). n.index) (slot_named k d below);
    of_set = λ k d below. ap (λ s. (numbers_of (get_or s k d)).set) are ∙ (ap (λ (n : SlotName). n.set) (slot_named k d below) ∙ sym of_set);
    closed = subst (AreClosed (locks_of desk) (passes_in pass)) (sym are) closed;
    drives = drives;
  }

module _ {D A : Type 0} (pass : SharedPass D A) (passes : List (Option (Pass (TurnedSlot D A)))) (are : passes ≡ passes_in pass) where
  -- what was found of the passes of a shared pass
  pub lacks_parts : LacksSome (passes_hold passes) → LacksParts (shared_holds pass)
  lacks_parts (k, inside, few) =
      let long = ap length are in
      let count = pass.count in
      let many = length-map passes (option_map pass_holds) in (
        k,
        omega (arith, inside, many, long, count),
        subst (λ p. parts_in (get_or (passes_hold p) k None) < 65536) are few,
      )

  pub has_parts : ((k : ℕ) → k < length passes → 65536 ≤ parts_in (get_or (passes_hold passes) k None))
      → (k : ℕ) → k < 64 → 65536 ≤ parts_in (get_or (passes_hold (passes_in pass)) k None)
  has_parts all k below =
      let long = ap length are in
      let count = pass.count in
      subst (λ p. 65536 ≤ parts_in (get_or (passes_hold p) k None)) are (all k (omega (arith, long, count, below)))
