-- A step leaves a store that holds, with what a section left of what the lanes of its slot stood for.
use Rattle.std.proofs.Common.{◌≡◌, ◌≢◌, ◌⊎◌, ◌<◌, ℕ, List, Option, Bool, ap, cond, inl, inr, nat_eq, refl, subst, sym}
use Rattle.std.proofs.lemmas.Bool.Decides.{eqb_tells}
use Rattle.desk_base.specs.Telling.{Effect}
use Rattle.drive_base.specs.declared.drive.Drive.{Ghosts}
use Rattle.drive_base.specs.declared.plan.SetPlan.{SetPlan}
use Rattle.slot_core.specs.Turns.{EntryMoves}
use Rattle.slot_data.specs.Disks.{Disks}
use Rattle.slot_history.specs.Standing.{Records}
use Rattle.slot_history.specs.State.{State}
use Rattle.receipts.specs.Events.{Event, Note, Shown}
use Rattle.receipts.specs.Events.Event.{BarredFrom, Called, Fed, Told, Turned}
use Rattle.op_steps.specs.Claims.{Claim, DataHolds, among}
use Rattle.log_laws.specs.Laws.{AllHold, HoldsAfter}
use Rattle.op_steps.specs.Leading.{Standing}
use Rattle.op_steps.specs.Moves.{ShowsBy}
use Rattle.op_steps.specs.Notes.{entry_in}
use Rattle.op_steps.specs.Steps.{StepMoves, Turns}
use Rattle.op_steps.specs.Store.{AreInOrder, Store}
use Rattle.op_steps.proofs.SlotLemmas.{order_index}
use Rattle.log_laws.proofs.StepDataLemmas.{called_holds, disks_are, same_holds, same_slot, turned_data}
use Rattle.log_laws.proofs.HistoryLemmas.{step_order}

abbrev pub stood_by : Records → State → Standing
stood_by records state = record { records = records; state = state }

-- what a step does to what the lanes of a slot stand for: a section of it moves that by its entry, and all else leaves it
abbrev pub SlotMoves : ℕ → Event → Standing → Standing → Type 0
SlotMoves slot (Turned k made shown) from to = ((k ≡ slot) × EntryMoves slot (entry_in made) (ShowsBy (entry_in made) shown) from.records from.state to.records to.state)
    ⊎ ((k ≢ slot) × (to ≡ from))
SlotMoves slot (BarredFrom k why) from to = to ≡ from
SlotMoves slot (Called k made) from to = to ≡ from
SlotMoves slot (Fed bytes cut) from to = to ≡ from
SlotMoves slot (Told telling cut) from to = to ≡ from

module _ {D T : Type 0} (ghosts : Ghosts D) (takes breaks : Effect T) (set : SetPlan) (unseen : Disks) (front rest : List Claim) where
  -- a store whose slots are in order and whose data holds
  pub record Holds (store : Store D T) : Type 0 where
    pub order : AreInOrder set store.slots store.disks
    pub low : store.claim.slot < 64
    pub at : ℕ → Standing
    pub held : AllHold ghosts.tells ghosts.files unseen store front rest at

  -- what a section left of what the lanes of its slot stood for
  record Left (slot : ℕ) (note : Option Note) (shown : Shown) (new : Store D T) (at : ℕ → Standing) : Type 0 where
    to : Standing
    moves : EntryMoves slot (entry_in note) (ShowsBy (entry_in note) shown) (at slot).records (at slot).state to.records to.state
    held : AllHold ghosts.tells ghosts.files unseen new front rest (λ k. cond (nat_eq slot k) to (at k))

  turn_left : (slot : ℕ) (note : Option Note) (shown : Shown) (old new : Store D T) → AreInOrder set old.slots old.disks → Turns ghosts slot note shown old new
      → (at : ℕ → Standing) → AllHold ghosts.tells ghosts.files unseen old front rest at → Left slot note shown new at
  turn_left slot note shown old new order x at held =
      let began = held slot x.was x.is in
      let leaves = x.moves.leaves (at slot).records (at slot).state began.stands in
      let left : Standing = stood_by leaves.records_after leaves.state_after in
      let own : HoldsAfter ghosts.tells ghosts.files unseen new front rest left x.now = record {
        stands = leaves.stands;
        holds = subst (λ d. DataHolds x.now.numbers x.now.holding unseen d (among front new.claim rest) leaves.records_after leaves.state_after)
            (disks_are ghosts takes breaks set slot note shown old new order x unseen front rest at held) (leaves.holds unseen front rest began.holds);
      } in
      record {
        to = left;
        moves = subst (λ (i : ℕ). EntryMoves i (entry_in note) (ShowsBy (entry_in note) shown) (at slot).records (at slot).state left.records left.state)
            (order_index set old.slots old.disks slot x.was order x.is) leaves.moves;
        held = turned_data ghosts takes breaks set slot note shown old new order x unseen front rest at held left own;
      }

  -- a step leaves a store that holds, and moves a slot so
  pub record Stepped (slot : ℕ) (event : Event) (old new : Store D T) (x : Holds old) : Type 0 where
    pub next : Holds new
    pub moves : SlotMoves slot event (x.at slot) (next.at slot)

  -- what stays where nothing was done to it
  stays : (slot : ℕ) (event : Event) (old new : Store D T) → StepMoves ghosts takes breaks set event old new → (x : Holds old)
      → AllHold ghosts.tells ghosts.files unseen new front rest x.at → SlotMoves slot event (x.at slot) (x.at slot) → Stepped slot event old new x
  stays slot event old new step x held moves = record {
    next = record {
      order = step_order ghosts takes breaks set event old new x.order step;
      low = subst (λ (n : ℕ). n < 64) (sym (same_slot ghosts takes breaks set event old new step)) x.low;
      at = x.at;
      held = held;
    };
    moves = moves;
  }

  turned_so : (slot k : ℕ) (made : Option Note) (shown : Shown) (old new : Store D T) → StepMoves ghosts takes breaks set (Turned k made shown) old new
      → (x : Holds old) → Stepped slot (Turned k made shown) old new x
  turned_so slot k made shown old new step x =
      let left = turn_left k made shown old new x.order step x.at x.held in
      record {
        next = record {
          order = step_order ghosts takes breaks set (Turned k made shown) old new x.order step;
          low = subst (λ (n : ℕ). n < 64) (sym (same_slot ghosts takes breaks set (Turned k made shown) old new step)) x.low;
          at = λ j. cond (nat_eq k j) left.to (x.at j);
          held = left.held;
        };
        moves = elim (eqb_tells k slot) [
          | inl own ↦ inl (
            own.1,
            subst (λ (b : Bool). EntryMoves slot (entry_in made) (ShowsBy (entry_in made) shown) (x.at slot).records (x.at slot).state
                (cond b left.to (x.at slot)).records (cond b left.to (x.at slot)).state) (sym own.0)
                (subst (λ (j : ℕ). EntryMoves j (entry_in made) (ShowsBy (entry_in made) shown) (x.at j).records (x.at j).state left.to.records left.to.state) own.1 left.moves),
          )
          | inr other ↦ inr (other.1, subst (λ (b : Bool). cond b left.to (x.at slot) ≡ x.at slot) (sym other.0) refl)
        ];
      }

  pub step_on : (slot : ℕ) (event : Event) (old new : Store D T) → StepMoves ghosts takes breaks set event old new → (x : Holds old) → Stepped slot event old new x
  step_on slot (Turned k made shown) old new step x = turned_so slot k made shown old new step x
  step_on slot (BarredFrom k why) old new step x = stays slot (BarredFrom k why) old new step x
      (same_holds ghosts takes breaks old new unseen front rest x.at (ap (λ (s : Store D T). s.slots) step.leaves) (ap (λ (s : Store D T). s.disks) step.leaves)
      (ap (λ (s : Store D T). s.claim) step.leaves) x.held) refl
  step_on slot (Called k made) old new step x = stays slot (Called k made) old new step x
      (called_holds ghosts takes breaks set k made old new unseen front rest x.at x.order x.low step x.held) refl
  step_on slot (Fed bytes cut) old new step x = stays slot (Fed bytes cut) old new step x
      (same_holds ghosts takes breaks old new unseen front rest x.at (ap (λ (s : Store D T). s.slots) step.leaves) (ap (λ (s : Store D T). s.disks) step.leaves)
      (ap (λ (s : Store D T). s.claim) step.leaves) x.held) refl
  step_on slot (Told telling cut) old new step x = stays slot (Told telling cut) old new step x
      (same_holds ghosts takes breaks old new unseen front rest x.at (ap (λ (s : Store D T). s.slots) step.leaves) (ap (λ (s : Store D T). s.disks) step.leaves)
      (ap (λ (s : Store D T). s.claim) step.leaves) x.held) refl
