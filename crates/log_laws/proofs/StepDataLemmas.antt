-- What one step leaves of the data of each slot, and what the lanes of the slot stand for then.
use Rattle.std.proofs.Common.{◌≡◌, ◌≢◌, ◌<◌, ◌∙◌, ℕ, List, [], ◌∷◌, ◌++◌, Option, append-nil, cond, length, nat_eq, slice_index_or, slice_set, inl, inr, sym, ap, subst, subst₂, arith}
use Rattle.std.proofs.lemmas.Bool.Decides.{eqb_tells}
use Rattle.desk_base.specs.Telling.{Effect}
use Rattle.drive_base.specs.declared.drive.Drive.{Ghosts}
use Rattle.drive_base.specs.Calls.{MadeCall}
use Rattle.drive_base.specs.View.{AllOnlyRead}
use Rattle.drive_base.specs.declared.plan.SetPlan.{SetPlan}
use Rattle.slot_data.specs.Disks.{Disks}
use Rattle.receipts.specs.Events.{Event, Note, Shown}
use Rattle.receipts.specs.Events.Event.{BarredFrom, Called, Fed, Told, Turned}
use Rattle.op_steps.specs.Claims.{Claim, DataHolds, among}
use Rattle.log_laws.specs.Laws.{AllHold, EachStepKeepsData, HoldsAfter, HoldsLater, AllLead}
use Rattle.op_steps.specs.Leading.{Entered, LeadsTo, Standing, entered_by}
use Rattle.op_steps.specs.Moves.{ClaimMoves, KeepsData, SlotKept}
use Rattle.op_steps.specs.Notes.{entry_in}
use Rattle.op_steps.specs.Steps.{Calls, IsSlotAt, StepMoves, Turns}
use Rattle.op_steps.specs.Store.{AreInOrder, SlotSeen, Store}
use Rattle.op_steps.proofs.ClaimLemmas.{claims_elsewhere}
use Rattle.op_steps.proofs.DataLemmas.{data_read}
use Rattle.op_steps.proofs.LeadingLemmas.{leads_stay, leaves_lead}
use Rattle.op_steps.proofs.SlotLemmas.{order_index, order_set}
use Rattle.log_laws.proofs.PlaceLemmas.{set_other, set_same, slot_is_one, there}

module _ {D T : Type 0} (ghosts : Ghosts D) (takes breaks : Effect T) where
  -- the data of a slot that stays holds as before, where the drives are only read and the op's claim moves elsewhere
  data_stays : (was : SlotSeen D) (old new : Store D T) (unseen : Disks) (front rest : List Claim) (at : Standing) (index : ℕ) → was.numbers.index ≢ index
      → ClaimMoves index old.claim new.claim → AllOnlyRead old.disks new.disks → HoldsAfter ghosts.tells ghosts.files unseen old front rest at was
      → HoldsAfter ghosts.tells ghosts.files unseen new front rest at was
  data_stays was old new unseen front rest at index other moves read x = record {
    stands = x.stands;
    holds = data_read was.numbers was.holding unseen old.disks new.disks (among front old.claim rest) (among front new.claim rest) at.records at.state read
        (claims_elsewhere was.numbers.index index front rest old.claim new.claim other moves) x.holds;
  }

  module _ (set : SetPlan) (j : ℕ) (note : Option Note) (shown : Shown) (old new : Store D T) (order : AreInOrder set old.slots old.disks)
      (x : Turns ghosts j note shown old new) (unseen : Disks) (front rest : List Claim) (at : ℕ → Standing)
      (held : AllHold ghosts.tells ghosts.files unseen old front rest at) where
    pub disks_are : x.disks ≡ new.disks
    disks_are = sym (ap (λ (s : Store D T). s.disks) x.leaves)

    -- over a section the data of each slot holds, where that of its own does with what its lanes stand for then
    pub turned_data : (left : Standing) → HoldsAfter ghosts.tells ghosts.files unseen new front rest left x.now
        → AllHold ghosts.tells ghosts.files unseen new front rest (λ k. cond (nat_eq j k) left (at k))
    turned_data left own_holds k now later =
        let set_now : IsSlotAt (slice_set old.slots j x.now) k now = subst (λ (s : Store D T). IsSlotAt s.slots k now) x.leaves later in
        elim (eqb_tells j k) [
          | inl own ↦ subst (λ b. HoldsAfter ghosts.tells ghosts.files unseen new front rest (cond b left (at k)) now) (sym own.0)
              (let last : x.now ≡ now = slot_is_one (slice_set old.slots j x.now) j x.now now (set_same old.slots j x.now x.is.0)
              (subst (λ i. IsSlotAt (slice_set old.slots j x.now) i now) (sym own.1) set_now) in
              subst (λ (s : SlotSeen D). HoldsAfter ghosts.tells ghosts.files unseen new front rest left s) last own_holds)
          | inr other ↦ subst (λ b. HoldsAfter ghosts.tells ghosts.files unseen new front rest (cond b left (at k)) now) (sym other.0)
              (let is : IsSlotAt old.slots k now = set_other old.slots j k x.now now (λ same. other.1 (sym same)) set_now in
              let apart : now.numbers.index ≢ x.was.numbers.index = λ equal. other.1 (sym (order_index set old.slots old.disks j x.was order x.is)
              ∙ (sym equal ∙ order_index set old.slots old.disks k now order is)) in
              data_stays now old new unseen front rest (at k) x.was.numbers.index apart x.moves.claims
              (subst (λ d. AllOnlyRead old.disks d) disks_are x.moves.read) (held k now is))
        ]

    -- and each is led by its entries, where its own is
    turned_leads : (left : Standing) → LeadsTo set j (entered_by (entry_in note) shown) (at j) left
        → AllLead set (Turned j note shown ∷ []) at (λ k. cond (nat_eq j k) left (at k))
    turned_leads left own_leads k = elim (eqb_tells j k) [
      | inl own ↦ subst (λ b. LeadsTo set k (cond b (entered_by (entry_in note) shown) [] ++ []) (at k) (cond b left (at k))) (sym own.0)
          (subst (λ i. LeadsTo set i (entered_by (entry_in note) shown ++ []) (at i) left) own.1
          (subst (λ (run : List Entered). LeadsTo set j run (at j) left) (sym (append-nil (entered_by (entry_in note) shown))) own_leads))
      | inr other ↦ subst (λ b. LeadsTo set k (cond b (entered_by (entry_in note) shown) [] ++ []) (at k) (cond b left (at k))) (sym other.0)
          (leads_stay set k (at k))
    ]

    turned_holds : HoldsLater ghosts.tells ghosts.files set (Turned j note shown ∷ []) unseen new front rest at
    turned_holds =
        let began = held j x.was x.is in
        let leaves = x.moves.leaves (at j).records (at j).state began.stands in
        let left : Standing = record { records = leaves.records_after; state = leaves.state_after } in
        let own : HoldsAfter ghosts.tells ghosts.files unseen new front rest left x.now = record {
          stands = leaves.stands;
          holds = subst (λ d. DataHolds x.now.numbers x.now.holding unseen d (among front new.claim rest) leaves.records_after leaves.state_after) disks_are
              (leaves.holds unseen front rest began.holds);
        } in
        record {
          later = λ k. cond (nat_eq j k) left (at k);
          lead = turned_leads left (subst₂ (λ (s : SetPlan) (i : ℕ). LeadsTo s i (entered_by (entry_in note) shown) (at j) left)
              (order_set set old.slots old.disks j x.was order x.is) (order_index set old.slots old.disks j x.was order x.is)
              (leaves_lead ghosts x.was x.now note shown old.claim new.claim old.disks x.disks (at j) leaves));
          holds = turned_data left own;
        }

  -- where slots, drives and claim stay, all data holds as before
  pub same_holds : (old new : Store D T) (unseen : Disks) (front rest : List Claim) (at : ℕ → Standing) → new.slots ≡ old.slots → new.disks ≡ old.disks
      → new.claim ≡ old.claim → AllHold ghosts.tells ghosts.files unseen old front rest at → AllHold ghosts.tells ghosts.files unseen new front rest at
  same_holds old new unseen front rest at slots disks claim held k was is =
      let x = held k was (subst (λ l. IsSlotAt l k was) slots is) in
      record {
        stands = x.stands;
        holds = subst₂ (λ d c. DataHolds was.numbers was.holding unseen d (among front c rest) (at k).records (at k).state) (sym disks) (sym claim) x.holds;
      }

  -- what is kept of a slot whose data holds
  kept_of : SlotSeen D → Standing → SlotKept
  kept_of was at = record { numbers = was.numbers; holding = was.holding; records = at.records; state = at.state }

  keeps : (set : SetPlan) (store : Store D T) (k : ℕ) (was : SlotSeen D) (unseen : Disks) (front rest : List Claim) (at : Standing)
      → AreInOrder set store.slots store.disks → IsSlotAt store.slots k was → HoldsAfter ghosts.tells ghosts.files unseen store front rest at was
      → KeepsData set unseen store.disks (among front store.claim rest) (kept_of was at)
  unfolding kept_of
  keeps set store k was unseen front rest at order is x =
      record { set_is = order_set set store.slots store.disks k was order is; stands = x.stands.stands; holds = x.holds }

  -- over a call of a data drive the data of each slot holds, since that of the op's own slot does
  pub called_holds : (set : SetPlan) (i : ℕ) (made : MadeCall) (old new : Store D T) (unseen : Disks) (front rest : List Claim) (at : ℕ → Standing)
      → AreInOrder set old.slots old.disks → old.claim.slot < 64 → Calls set i made old new → AllHold ghosts.tells ghosts.files unseen old front rest at
      → AllHold ghosts.tells ghosts.files unseen new front rest at
  unfolding kept_of
  called_holds set i made old new unseen front rest at order low x held k was later =
      let is : IsSlotAt old.slots k was = subst (λ l. IsSlotAt l k was) (ap (λ (s : Store D T). s.slots) x.leaves) later in
      let within : old.claim.slot < length old.slots = (let count = order.count in omega (arith, count, low)) in
      let own = slice_index_or old.slots old.claim.slot was in
      let mine = there old.slots old.claim.slot was within in
      let before = held k was is in
      record {
        stands = before.stands;
        holds = x.moves.holds unseen front rest (kept_of own (at old.claim.slot)) (kept_of was (at k))
            (order_index set old.slots old.disks old.claim.slot own order mine)
            (keeps set old old.claim.slot own unseen front rest (at old.claim.slot) order mine (held old.claim.slot own mine))
            (keeps set old k was unseen front rest (at k) order is before);
      }

  -- one step, by what it is
  step_holds : (set : SetPlan) (event : Event) (old new : Store D T) (unseen : Disks) (front rest : List Claim) (at : ℕ → Standing)
      → AreInOrder set old.slots old.disks → old.claim.slot < 64 → StepMoves ghosts takes breaks set event old new
      → AllHold ghosts.tells ghosts.files unseen old front rest at → HoldsLater ghosts.tells ghosts.files set (event ∷ []) unseen new front rest at
  step_holds set (Turned j note shown) old new unseen front rest at order low x held =
      turned_holds set j note shown old new order x unseen front rest at held
  step_holds set (BarredFrom j why) old new unseen front rest at order low x held = record {
    later = at;
    lead = λ k. leads_stay set k (at k);
    holds = same_holds old new unseen front rest at (ap (λ (s : Store D T). s.slots) x.leaves) (ap (λ (s : Store D T). s.disks) x.leaves)
        (ap (λ (s : Store D T). s.claim) x.leaves) held;
  }
  step_holds set (Called j made) old new unseen front rest at order low x held = record {
    later = at;
    lead = λ k. leads_stay set k (at k);
    holds = called_holds set j made old new unseen front rest at order low x held;
  }
  step_holds set (Fed bytes cut) old new unseen front rest at order low x held = record {
    later = at;
    lead = λ k. leads_stay set k (at k);
    holds = same_holds old new unseen front rest at (ap (λ (s : Store D T). s.slots) x.leaves) (ap (λ (s : Store D T). s.disks) x.leaves)
        (ap (λ (s : Store D T). s.claim) x.leaves) held;
  }
  step_holds set (Told telling cut) old new unseen front rest at order low x held = record {
    later = at;
    lead = λ k. leads_stay set k (at k);
    holds = same_holds old new unseen front rest at (ap (λ (s : Store D T). s.slots) x.leaves) (ap (λ (s : Store D T). s.disks) x.leaves)
        (ap (λ (s : Store D T). s.claim) x.leaves) held;
  }

  -- an op stays at its slot
  pub same_slot : (set : SetPlan) (event : Event) (old new : Store D T) → StepMoves ghosts takes breaks set event old new → new.claim.slot ≡ old.claim.slot
  same_slot set (Turned i made shown) old new x = x.moves.claims.slot
  same_slot set (BarredFrom i why) old new x = ap (λ (s : Store D T). s.claim.slot) x.leaves
  same_slot set (Called i made) old new x = x.moves.claims.slot
  same_slot set (Fed bytes cut) old new x = ap (λ (s : Store D T). s.claim.slot) x.leaves
  same_slot set (Told telling cut) old new x = ap (λ (s : Store D T). s.claim.slot) x.leaves

  pub step_data : EachStepKeepsData ghosts takes breaks
  step_data set event old new unseen front rest at order low x held =
      (same_slot set event old new x, step_holds set event old new unseen front rest at order low x held)
