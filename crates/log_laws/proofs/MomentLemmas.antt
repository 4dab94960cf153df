-- The store at the moment of an event of a log: it holds, and data drives go on up to it and from it.
use Rattle.std.proofs.Common.{◌≡◌, ◌∙◌, ◌<◌, ℕ, zero, suc, List, [], ◌∷◌, Contains, refl, subst, sym, arith}
use Rattle.desk_base.specs.Telling.{Effect}
use Rattle.drive_base.specs.declared.drive.Drive.{Ghosts}
use Rattle.drive_base.specs.declared.plan.SetPlan.{SetPlan}
use Rattle.slot_data.specs.Disks.{Disks}
use Rattle.receipts.specs.Events.{Event, Log}
use Rattle.op_steps.specs.Claims.{Claim}
use Rattle.log_laws.specs.Laws.{AllHold, EachStepKeepsData, RanKeepsFiles, RanKeepsHistory}
use Rattle.op_steps.specs.Moves.{DrivesKeep}
use Rattle.op_steps.specs.Leading.{Standing}
use Rattle.op_steps.specs.Steps.{Ran, StepMoves}
use Rattle.op_steps.specs.Store.{AreInOrder, Store}
use Rattle.log_laws.proofs.FileLemmas.{drives_stay, drives_twice}

module _ {D T : Type 0} (ghosts : Ghosts D) (takes breaks : Effect T) where
  pub record Moment (set : SetPlan) (event : Event) (old new : Store D T) (unseen : Disks) (front rest : List Claim) : Type 0 where
    pub mid : Store D T
    pub later : Store D T
    pub at : ℕ → Standing
    pub order : AreInOrder set mid.slots mid.disks
    pub slot : mid.claim.slot ≡ old.claim.slot
    pub held : AllHold ghosts.tells ghosts.files unseen mid front rest at
    pub step : StepMoves ghosts takes breaks set event mid later
    pub before : DrivesKeep old.disks mid.disks
    pub after : DrivesKeep later.disks new.disks

  pub moment : EachStepKeepsData ghosts takes breaks → RanKeepsHistory ghosts takes breaks → RanKeepsFiles ghosts takes breaks → (set : SetPlan) (log : Log)
      (old new : Store D T) (unseen : Disks) (front rest : List Claim) (at : ℕ → Standing) (event : Event) → AreInOrder set old.slots old.disks
      → old.claim.slot < 64 → AllHold ghosts.tells ghosts.files unseen old front rest at → Ran ghosts takes breaks set log old new → Contains log event
      → Moment set event old new unseen front rest
  moment step_law history files set [] old new unseen front rest at event order low held ran (j, inside, e) = absurd (omega (arith, inside))
  moment step_law history files set (first ∷ log) old new unseen front rest at event order low held (mid, step, ran) (zero, inside, e) = record {
    mid = old;
    later = mid;
    at = at;
    order = order;
    slot = refl;
    held = held;
    step = subst (λ (v : Event). StepMoves ghosts takes breaks set v old mid) e step;
    before = drives_stay old.disks old.disks refl;
    after = files set log mid new ran;
  }
  moment step_law history files set (first ∷ log) old new unseen front rest at event order low held (mid, step, ran) (suc j, inside, e) =
      let kept = step_law set first old mid unseen front rest at order low step held in
      let x = moment step_law history files set log mid new unseen front rest kept.1.later event (history set (first ∷ []) old mid order (mid, step, refl)).0
      (subst (λ (n : ℕ). n < 64) (sym kept.0) low) kept.1.holds ran (j, omega (arith, inside), e) in
      record {
        mid = x.mid;
        later = x.later;
        at = x.at;
        order = x.order;
        slot = x.slot ∙ kept.0;
        held = x.held;
        step = x.step;
        before = drives_twice old.disks mid.disks x.mid.disks (files set (first ∷ []) old mid (mid, step, refl)) x.before;
        after = x.after;
      }
