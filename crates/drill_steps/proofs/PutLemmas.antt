-- The numbers of puts that begin over moves rise.
use Rattle.std.proofs.Common.{◌≡◌, ◌≤◌, ◌∙◌, ℕ, List, [], ◌∷◌, Option, slice_set, inl, inr, sym, ap, subst, subst₂, arith}
use Rattle.std.proofs.lemmas.Bool.Decides.{eqb_tells}
use Rattle.desk_base.specs.Telling.{Effect}
use Rattle.drive_base.specs.View.{DriveView}
use Rattle.drive_base.specs.declared.drive.Drive.{Ghosts}
use Rattle.drive_base.specs.declared.plan.SetPlan.{SetPlan}
use Rattle.receipts.specs.Events.{Event, Log, Note, Shown}
use Rattle.receipts.specs.Events.Event.{BarredFrom, Called, Fed, Told, Turned}
use Rattle.slot_history.specs.Standing.{Flying}
use Rattle.slot_core.specs.Views.{SlotNumbers, last_of}
use Rattle.op_steps.specs.Going.{IsStepOf}
use Rattle.op_steps.specs.Steps.{IsSlotAt, Ran, StepMoves, Turns}
use Rattle.op_steps.specs.Store.{AreInOrder, SlotSeen, Store}
use Rattle.op_steps.specs.declared.next.OpNext.{OpNext}
use Rattle.op_steps.specs.declared.op.Op.{Ghosts as Ops}
use Rattle.op_steps.proofs.DataLemmas.{last_rises}
use Rattle.op_steps.proofs.SlotLemmas.{order_index}
use Rattle.log_laws.proofs.PlaceLemmas.{set_other, set_same, slot_at, slot_is_one}
use Rattle.log_laws.specs.Laws.{RanKeepsHistory}
use Rattle.log_laws.specs.StoreTroubles.{StoreTroubled}
use Rattle.drill_steps.specs.Puts.{LiesIn, PutBegins, PutIdsRise, PutsRise}
use Rattle.drill_steps.specs.Worlds.{Move, World, WorldRan, store_with}
use Rattle.drill_steps.specs.Worlds.Move.{Ended, Hurt, Started, Stepped, Struck}
use Rattle.drill_steps.proofs.HonestLemmas.{struck_order}

-- what one step draws in a slot: its last number rises, and that of a put that began there lies between
record StepDraws {D T : Type 0} (k : ℕ) (was now : SlotSeen D) (old new : Store D T) : Type 0 where
  rises : last_of was.numbers ≤ last_of now.numbers
  put : (f : Flying) → PutBegins k old.claim new.claim f → LiesIn (last_of was.numbers) (last_of now.numbers) f

not_less : {D : Type 0} (was now : SlotSeen D) → was ≡ now → last_of was.numbers ≤ last_of now.numbers
not_less {D} was now same = subst (λ (s : SlotSeen D). last_of was.numbers ≤ last_of s.numbers) same (omega arith)

module _ {D T : Type 0} (ghosts : Ghosts D) (takes breaks : Effect T) (set : SetPlan) where
  -- no section
  none_draws : (k : ℕ) (was now : SlotSeen D) (old new : Store D T) → new.slots ≡ old.slots → new.claim.flight ≡ old.claim.flight
      → IsSlotAt old.slots k was → IsSlotAt new.slots k now → StepDraws k was now old new
  none_draws k was now old new slots flight is later = record {
    rises = not_less was now (slot_is_one old.slots k was now is (subst (λ l. IsSlotAt l k now) slots later));
    put = λ f begins. absurd (begins.had (sym flight ∙ begins.has));
  }

  -- a section
  turn_draws : (j : ℕ) (made : Option Note) (shown : Shown) (old new : Store D T) → AreInOrder set old.slots old.disks
      → (x : Turns ghosts j made shown old new) → (k : ℕ) (was now : SlotSeen D) → IsSlotAt old.slots k was → IsSlotAt new.slots k now
      → StepDraws k was now old new
  turn_draws j made shown old new order x k was now is later =
      let set_now : IsSlotAt (slice_set old.slots j x.now) k now = subst (λ (s : Store D T). IsSlotAt s.slots k now) x.leaves later in
      elim (eqb_tells j k) [
        | inl own ↦ (let first : x.was ≡ was = slot_is_one old.slots j x.was was x.is (subst (λ i. IsSlotAt old.slots i was) (sym own.1) is) in
            let last : x.now ≡ now = slot_is_one (slice_set old.slots j x.now) j x.now now (set_same old.slots j x.now x.is.0)
            (subst (λ i. IsSlotAt (slice_set old.slots j x.now) i now) (sym own.1) set_now) in
            record {
              rises = subst₂ (λ (a b : SlotSeen D). last_of a.numbers ≤ last_of b.numbers) first last (last_rises x.was.numbers x.now.numbers x.moves.numbers);
              put = λ f begins. subst₂ (λ (a b : SlotSeen D). LiesIn (last_of a.numbers) (last_of b.numbers) f) first last
                  (elim (x.moves.gains.flight f begins.has) [
                    | inl same ↦ absurd (begins.had same)
                    | inr begun ↦ (begun.above, begun.within)
                  ]);
            })
        | inr other ↦ record {
          rises = not_less was now (slot_is_one old.slots k was now is (set_other old.slots j k x.now now (λ same. other.1 (sym same)) set_now));
          put = λ f begins. elim (x.moves.gains.flight f begins.has) [
            | inl same ↦ absurd (begins.had same)
            | inr begun ↦ absurd (other.1 (sym (order_index set old.slots old.disks j x.was order x.is) ∙ (sym begun.slot ∙ begins.slot)))
          ];
        }
      ]

  -- any step
  step_draws : (event : Event) (old new : Store D T) → AreInOrder set old.slots old.disks → StepMoves ghosts takes breaks set event old new
      → (k : ℕ) (was now : SlotSeen D) → IsSlotAt old.slots k was → IsSlotAt new.slots k now → StepDraws k was now old new
  step_draws (Turned j made shown) old new order x k was now is later = turn_draws j made shown old new order x k was now is later
  step_draws (BarredFrom j why) old new order x k was now is later =
      none_draws k was now old new (ap (λ (s : Store D T). s.slots) x.leaves) (ap (λ (s : Store D T). s.claim.flight) x.leaves) is later
  step_draws (Called j made) old new order x k was now is later =
      none_draws k was now old new (ap (λ (s : Store D T). s.slots) x.leaves) x.moves.claims.flight is later
  step_draws (Fed bytes cut) old new order x k was now is later =
      none_draws k was now old new (ap (λ (s : Store D T). s.slots) x.leaves) (ap (λ (s : Store D T). s.claim.flight) x.leaves) is later
  step_draws (Told telling cut) old new order x k was now is later =
      none_draws k was now old new (ap (λ (s : Store D T). s.slots) x.leaves) (ap (λ (s : Store D T). s.claim.flight) x.leaves) is later

  -- the log of one, or none
  log_draws : (more : Log) (next : OpNext) → IsStepOf next more → (old new : Store D T) → AreInOrder set old.slots old.disks
      → Ran ghosts takes breaks set more old new → (k : ℕ) (was now : SlotSeen D) → IsSlotAt old.slots k was → IsSlotAt new.slots k now
      → StepDraws k was now old new
  log_draws [] next step old new order same k was now is later =
      none_draws k was now old new (ap (λ (s : Store D T). s.slots) same) (ap (λ (s : Store D T). s.claim.flight) same) is later
  log_draws (event ∷ more) next step old new order (mid, x, ran) k was now is later =
      let last : new ≡ mid = subst (λ l. Ran ghosts takes breaks set l mid new) step.1 ran in
      subst (λ (s : Store D T). StepDraws k was now old s) (sym last)
      (step_draws event old mid order x k was now is (subst (λ (s : Store D T). IsSlotAt s.slots k now) last later))

module _ {D O T : Type 0} (ghosts : Ghosts D) (takes breaks : Effect T) (ops : Ops O) (set : SetPlan) (history : RanKeepsHistory ghosts takes breaks) where
  -- a slot of a world whose slots stay
  still : (old mid : World D O T) → mid.slots ≡ old.slots → mid.disks ≡ old.disks → AreInOrder set old.slots old.disks → AreInOrder set mid.slots mid.disks
  still old mid slots disks order = subst₂ (λ (s : List (SlotSeen D)) (d : List DriveView). AreInOrder set s d) (sym slots) (sym disks) order

  -- and of one that trouble befell
  struck_slot : (old mid : World D O T) (k : ℕ) (was : SlotSeen D) → StoreTroubled ghosts old.slots old.disks mid.slots mid.disks → IsSlotAt old.slots k was
      → (here : SlotSeen D) × IsSlotAt mid.slots k here × (here.numbers ≡ was.numbers)
  struck_slot old mid k was befell is =
      let here = slot_at mid.slots k (let count = befell.count in let low = is.0 in omega (arith, count, low)) in
      let s = befell.slots k here.0 here.1 in
      (here.0, here.1, s.2.numbers ∙ ap (λ (seen : SlotSeen D). seen.numbers) (slot_is_one old.slots k s.0 was s.1 is))

  -- any moves
  moves_rise : (moves : List Move) (old new : World D O T) (ran : WorldRan ghosts takes breaks ops set moves old new) (k : ℕ) (was now : SlotSeen D)
      → AreInOrder set old.slots old.disks → IsSlotAt old.slots k was → IsSlotAt new.slots k now
      → PutsRise ghosts takes breaks ops set k (last_of was.numbers) moves old new ran (last_of now.numbers)
  moves_rise [] old new ran k was now order is later =
      not_less was now (slot_is_one old.slots k was now is (subst (λ (w : World D O T). IsSlotAt w.slots k now) ran later))
  moves_rise (Started n ∷ moves) old new ran k was now order is later =
      moves_rise moves ran.0 new ran.2 k was now (still old ran.0 ran.1.slots ran.1.disks order) (subst (λ l. IsSlotAt l k was) (sym ran.1.slots) is) later
  moves_rise (Stepped n more ∷ moves) old new ran k was now order is later =
      let x = ran.1 in
      let before = store_with old x.was x.claim in
      let after = store_with ran.0 x.now x.later in
      let next = (history set more before after order x.ran).0 in
      let mid = slot_at ran.0.slots k (let one = order.count in let two = next.count in let low = is.0 in omega (arith, one, two, low)) in
      let drawn = log_draws ghosts takes breaks set more (ops.step x.was.op) x.step before after order x.ran k was mid.0 is mid.1 in
      (last_of mid.0.numbers, drawn.rises, drawn.put, moves_rise moves ran.0 new ran.2 k mid.0 now next mid.1 later)
  moves_rise (Ended n log ∷ moves) old new ran k was now order is later =
      moves_rise moves ran.0 new ran.2 k was now (still old ran.0 ran.1.slots ran.1.disks order) (subst (λ l. IsSlotAt l k was) (sym ran.1.slots) is) later
  moves_rise (Struck ∷ moves) old new ran k was now order is later =
      let befell = ran.1.trouble.troubled in
      let here = struck_slot old ran.0 k was befell is in
      subst (λ (n : SlotNumbers). PutsRise ghosts takes breaks ops set k (last_of n) moves ran.0 new ran.2 (last_of now.numbers)) here.2
      (moves_rise moves ran.0 new ran.2 k here.0 now (struck_order ghosts set old.slots ran.0.slots old.disks ran.0.disks befell order) here.1 later)
  moves_rise (Hurt ∷ moves) old new ran k was now order is later =
      let befell = ran.1.troubled in
      let here = struck_slot old ran.0 k was befell is in
      subst (λ (n : SlotNumbers). PutsRise ghosts takes breaks ops set k (last_of n) moves ran.0 new ran.2 (last_of now.numbers)) here.2
      (moves_rise moves ran.0 new ran.2 k here.0 now (struck_order ghosts set old.slots ran.0.slots old.disks ran.0.disks befell order) here.1 later)

module _ {D O T : Type 0} (ghosts : Ghosts D) (takes breaks : Effect T) (ops : Ops O) where
  pub put_ids_rise : RanKeepsHistory ghosts takes breaks → PutIdsRise ghosts takes breaks ops
  put_ids_rise history set moves old new ran k was now order is later =
      moves_rise ghosts takes breaks ops set history moves old new ran k was now order is later
