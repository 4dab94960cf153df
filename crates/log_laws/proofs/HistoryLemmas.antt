-- What one step leaves of the order of the slots and of each slot's history, and what a log leaves.
use Rattle.std.proofs.Common.{◌≡◌, ◌<◌, ◌∙◌, ℕ, List, [], ◌∷◌, Option, cond, length, slice_index_or, slice_set, inl, inr, sym, ap, subst, arith}
use Rattle.std.proofs.lemmas.Bool.Decides.{eqb_tells}
use Rattle.desk_base.specs.Telling.{Effect}
use Rattle.drive_base.specs.declared.drive.Drive.{Ghosts}
use Rattle.drive_base.specs.declared.plan.SetPlan.{SetPlan}
use Rattle.receipts.specs.Events.{Event, Note, Shown}
use Rattle.receipts.specs.Events.Event.{BarredFrom, Called, Fed, Told, Turned}
use Rattle.log_laws.specs.Laws.{RanKeepsHistory}
use Rattle.op_steps.specs.Leading.{WentOn, entered_at, entered_by, entered_in}
use Rattle.op_steps.specs.Notes.{entry_in}
use Rattle.op_steps.specs.Steps.{IsSlotAt, StepMoves, Turns}
use Rattle.op_steps.specs.Store.{AreInOrder, SlotSeen, Store}
use Rattle.op_steps.proofs.SlotLemmas.{order_index, order_stays}
use Rattle.log_laws.proofs.PlaceLemmas.{set_other, set_same, slot_is_one, there}
use Rattle.op_steps.proofs.StepLemmas.{same_went, went_turn, went_twice}

module _ {D T : Type 0} (ghosts : Ghosts D) (takes breaks : Effect T) where
  -- the order after one step
  pub step_order : (set : SetPlan) (event : Event) (old new : Store D T) → AreInOrder set old.slots old.disks → StepMoves ghosts takes breaks set event old new
      → AreInOrder set new.slots new.disks
  step_order set (Turned k made shown) old new order x =
      subst (λ (s : Store D T). AreInOrder set s.slots s.disks) (sym x.leaves)
      (order_stays set old.slots old.disks x.disks k x.was x.now order x.is x.moves.numbers x.moves.read.long)
  step_order set (BarredFrom k why) old new order x = subst (λ (s : Store D T). AreInOrder set s.slots s.disks) (sym x.leaves) order
  step_order set (Called k made) old new order x =
      subst (λ (l : List (SlotSeen D)). AreInOrder set l new.disks) (sym (ap (λ (s : Store D T). s.slots) x.leaves))
      (record { count = order.count; index = order.index; set_is = order.set_is; drives = x.moves.long ∙ order.drives })
  step_order set (Fed bytes cut) old new order x = subst (λ (s : Store D T). AreInOrder set s.slots s.disks) (sym x.leaves) order
  step_order set (Told telling cut) old new order x = subst (λ (s : Store D T). AreInOrder set s.slots s.disks) (sym x.leaves) order

  -- a slot of the same slots is the same
  stays : (old new : Store D T) (k : ℕ) (was now : SlotSeen D) → new.slots ≡ old.slots → IsSlotAt old.slots k was → IsSlotAt new.slots k now → was ≡ now
  stays old new k was now same is later = slot_is_one old.slots k was now is (subst (λ slots. IsSlotAt slots k now) same later)

  -- each slot goes on by the entries of one step
  turned_slot : (set : SetPlan) (j : ℕ) (note : Option Note) (shown : Shown) (old new : Store D T) → AreInOrder set old.slots old.disks
      → (x : Turns ghosts j note shown old new) → (k : ℕ) (was now : SlotSeen D) → IsSlotAt old.slots k was → IsSlotAt new.slots k now
      → WentOn ghosts.tells ghosts.files k was now (entered_in k (Turned j note shown))
  turned_slot set j note shown old new order x k was now is later =
      let set_now : IsSlotAt (slice_set old.slots j x.now) k now = subst (λ (s : Store D T). IsSlotAt s.slots k now) x.leaves later in
      elim (eqb_tells j k) [
        | inl own ↦ subst (λ b. WentOn ghosts.tells ghosts.files k was now (cond b (entered_by (entry_in note) shown) [])) (sym own.0)
            (subst (λ i. WentOn ghosts.tells ghosts.files i was now (entered_by (entry_in note) shown))
            (order_index set old.slots old.disks j x.was order x.is ∙ own.1)
            (let first : x.was ≡ was = slot_is_one old.slots j x.was was x.is (subst (λ i. IsSlotAt old.slots i was) (sym own.1) is) in
            let last : x.now ≡ now = slot_is_one (slice_set old.slots j x.now) j x.now now (set_same old.slots j x.now x.is.0)
            (subst (λ i. IsSlotAt (slice_set old.slots j x.now) i now) (sym own.1) set_now) in
            subst (λ a. WentOn ghosts.tells ghosts.files x.was.numbers.index a now (entered_by (entry_in note) shown)) first
            (subst (λ b. WentOn ghosts.tells ghosts.files x.was.numbers.index x.was b (entered_by (entry_in note) shown)) last
            (went_turn ghosts x.was x.now note shown old.claim new.claim old.disks x.disks x.moves))))
        | inr other ↦ subst (λ b. WentOn ghosts.tells ghosts.files k was now (cond b (entered_by (entry_in note) shown) [])) (sym other.0)
            (same_went ghosts k was now (slot_is_one old.slots k was now is
            (set_other old.slots j k x.now now (λ same. other.1 (sym same)) set_now)))
      ]

  step_went : (set : SetPlan) (event : Event) (old new : Store D T) → AreInOrder set old.slots old.disks → StepMoves ghosts takes breaks set event old new
      → (k : ℕ) (was now : SlotSeen D) → IsSlotAt old.slots k was → IsSlotAt new.slots k now → WentOn ghosts.tells ghosts.files k was now (entered_in k event)
  step_went set (Turned j note shown) old new order x k was now is later = turned_slot set j note shown old new order x k was now is later
  step_went set (BarredFrom j why) old new order x k was now is later =
      same_went ghosts k was now (stays old new k was now (ap (λ (s : Store D T). s.slots) x.leaves) is later)
  step_went set (Called j made) old new order x k was now is later =
      same_went ghosts k was now (stays old new k was now (ap (λ (s : Store D T). s.slots) x.leaves) is later)
  step_went set (Fed bytes cut) old new order x k was now is later =
      same_went ghosts k was now (stays old new k was now (ap (λ (s : Store D T). s.slots) x.leaves) is later)
  step_went set (Told telling cut) old new order x k was now is later =
      same_went ghosts k was now (stays old new k was now (ap (λ (s : Store D T). s.slots) x.leaves) is later)

  -- and by those of a log
  pub history_runs : RanKeepsHistory ghosts takes breaks
  history_runs set [] old new order same = (
    subst (λ (s : Store D T). AreInOrder set s.slots s.disks) (sym same) order,
    λ k was now is later. same_went ghosts k was now (stays old new k was now (ap (λ (s : Store D T). s.slots) same) is later),
  )
  history_runs set (event ∷ log) old new order ran =
      let mid = ran.0 in
      let ordered = step_order set event old mid order ran.1 in
      let rest = history_runs set log mid new ordered ran.2 in (
        rest.0,
        λ k was now is later.
            let inside : k < length mid.slots = (let a = order.count in let b = ordered.count in let c = is.0 in omega (arith, a, b, c)) in
            let middle = slice_index_or mid.slots k was in
            went_twice ghosts k was middle now (entered_in k event) (entered_at k log)
            (step_went set event old mid order ran.1 k was middle is (there mid.slots k was inside))
            (rest.1 k middle now (there mid.slots k was inside) later),
      )
