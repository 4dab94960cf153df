-- The calls of a data drive in a log are the calls that were made of it.
use Rattle.std.proofs.Common.{◌≡◌, ℕ, List, [], ◌∷◌, Option, cond, length, inl, inr, ap, subst, sym, ◌≤◌, ◌∙◌, arith}
use Rattle.std.proofs.lemmas.Bool.{cases_lt}
use Rattle.std.proofs.lemmas.Bool.Decides.{eqb_tells}
use Rattle.desk_base.specs.Telling.{Effect}
use Rattle.drive_base.specs.Calls.{MadeCall}
use Rattle.drive_base.specs.Trail.{GrewByReadings}
use Rattle.drive_base.specs.View.{AllOnlyRead, DriveView, view_at, blank_view}
use Rattle.drive_base.specs.declared.drive.Drive.{Ghosts}
use Rattle.drive_base.specs.declared.plan.SetPlan.{SetPlan}
use Rattle.receipts.specs.Events.{Event, Log, Note, Shown}
use Rattle.receipts.specs.Events.Event.{BarredFrom, Called, Fed, Told, Turned}
use Rattle.receipts.specs.declared.barred.Barred.{Barred}
use Rattle.op_steps.specs.Steps.{Calls, IsBarred, RanOver, StepOver, Turns}
use Rattle.op_steps.specs.Store.{Store, StoreOver}
use Rattle.op_steps.specs.Trails.{AddsCalls, LeadsTrail, LogsAreTrails}
use Rattle.std.proofs.lemmas.List.{get_or_past}

-- behind the last drive there is none before and after
pub past_same : (old new : List DriveView) (k : ℕ) → length new ≡ length old → length old ≤ k → view_at new k ≡ view_at old k
past_same old new k long past = get_or_past new k blank_view (omega (arith, long, past)) ∙ sym (get_or_past old k blank_view past)

-- what was done to drives that were only read is readings
pub read_trail : (old new : List DriveView) (k : ℕ) → AllOnlyRead old new → GrewByReadings (view_at old k).trail (view_at new k).trail
read_trail old new k read = elim (cases_lt k (length old)) [
  | inl inside ↦ (read.each k inside).trail
  | inr past ↦ record { more = []; readings = tt; grown = ap (λ (v : DriveView). v.trail) (past_same old new k read.long past) }
]

module _ {S T : Type 0} (turns : ℕ → Option Note → Shown → StoreOver S T → StoreOver S T → Type 0)
    (bars : ℕ → Barred → StoreOver S T → StoreOver S T → Type 0) (takes breaks : Effect T) (set : SetPlan)
    (reads : (j : ℕ) (made : Option Note) (shown : Shown) (old new : StoreOver S T) → turns j made shown old new → (k : ℕ)
    → GrewByReadings (view_at old.disks k).trail (view_at new.disks k).trail)
    (stays : (j : ℕ) (why : Barred) (old new : StoreOver S T) → bars j why old new → new.disks ≡ old.disks) where
  -- a call of one drive is added to the trail of that drive
  called_adds : (j : ℕ) (made : MadeCall) (old new : StoreOver S T) → Calls set j made old new → (k : ℕ)
      → AddsCalls k (Called j made) (view_at old.disks k).trail (view_at new.disks k).trail
  called_adds j made old new x k = elim (eqb_tells j k) [
    | inl own ↦ subst (λ b. (view_at new.disks k).trail ≡ cond b (made.call ∷ (view_at old.disks k).trail) (view_at old.disks k).trail) (sym own.0)
        (subst (λ (i : ℕ). (view_at new.disks i).trail ≡ made.call ∷ (view_at old.disks i).trail) own.1 x.moves.was_made.model.trail)
    | inr other ↦ subst (λ b. (view_at new.disks k).trail ≡ cond b (made.call ∷ (view_at old.disks k).trail) (view_at old.disks k).trail) (sym other.0)
        (ap (λ (v : DriveView). v.trail) (x.moves.others k (λ same. other.1 (sym same))))
  ]

  -- one step
  step_adds : (event : Event) (old new : StoreOver S T) → StepOver turns bars takes breaks set event old new → (k : ℕ)
      → AddsCalls k event (view_at old.disks k).trail (view_at new.disks k).trail
  step_adds (Turned j made shown) old new x k = reads j made shown old new x k
  step_adds (BarredFrom j why) old new x k = ap (λ (disks : List DriveView). (view_at disks k).trail) (stays j why old new x)
  step_adds (Called j made) old new x k = called_adds j made old new x k
  step_adds (Fed bytes cut) old new x k = ap (λ (s : StoreOver S T). (view_at s.disks k).trail) x.leaves
  step_adds (Told telling cut) old new x k = ap (λ (s : StoreOver S T). (view_at s.disks k).trail) x.leaves

  -- and a log, where sections only read and one that could not be done leaves all drives
  pub trails_lead : (log : Log) (old new : StoreOver S T) → RanOver turns bars takes breaks set log old new → (k : ℕ)
      → LeadsTrail k log (view_at old.disks k).trail (view_at new.disks k).trail
  trails_lead [] old new same k = ap (λ (s : StoreOver S T). (view_at s.disks k).trail) same
  trails_lead (event ∷ log) old new (mid, step, ran) k =
      ((view_at mid.disks k).trail, step_adds event old mid step k, trails_lead log mid new ran k)

module _ {D T : Type 0} (ghosts : Ghosts D) (takes breaks : Effect T) where
  -- so it is of a store that one op has for itself
  pub logs_are_trails : LogsAreTrails ghosts takes breaks
  logs_are_trails set = trails_lead (Turns ghosts) IsBarred takes breaks set
      (λ j made shown old new x k. subst (λ (s : Store D T). GrewByReadings (view_at old.disks k).trail (view_at s.disks k).trail) (sym x.leaves)
      (read_trail old.disks x.disks k x.moves.read))
      (λ j why old new x. ap (λ (s : Store D T). s.disks) x.leaves)
