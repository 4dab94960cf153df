-- The ids of puts that begin in a life: in each slot their numbers rise, so none is given twice.
use Rattle.std.specs.Prelude.{◌≡◌, ℕ, ◌<◌, ◌≤◌, List, [], ◌∷◌, Some}
use Rattle.desk_base.specs.Telling.{Effect}
use Rattle.drive_base.specs.declared.drive.Drive.{Ghosts}
use Rattle.drive_base.specs.declared.plan.SetPlan.{SetPlan}
use Rattle.slot_history.specs.Contents.{number_of_id}
use Rattle.slot_history.specs.Standing.{Flying}
use Rattle.slot_core.specs.Views.{last_of}
use Rattle.op_steps.specs.Claims.{Claim}
use Rattle.op_steps.specs.Steps.{IsSlotAt}
use Rattle.op_steps.specs.Store.{AreInOrder, SlotSeen}
use Rattle.op_steps.specs.declared.op.Op.{Ghosts as Ops}
use Rattle.drill_steps.specs.Worlds.{Move, World, WorldRan}
use Rattle.drill_steps.specs.Worlds.Move.{Ended, Hurt, Started, Stepped, Struck}

-- between two claims of an op a put of the slot of this index began
pub record PutBegins (k : ℕ) (claim later : Claim) (f : Flying) : Type 0 where
  pub has : later.flight ≡ Some f
  pub had : claim.flight ≡ Some f → ⊥
  pub slot : f.id.slot ≡ k

-- its number lies above the one and not above the other
abbrev pub LiesIn : ℕ → ℕ → Flying → Type 0
LiesIn low high f = (low < number_of_id f.id) × (number_of_id f.id ≤ high)

module _ {D O T : Type 0} (ghosts : Ghosts D) (takes breaks : Effect T) (ops : Ops O) (set : SetPlan) where
  -- the numbers of the puts that begin in a slot over moves rise, above the one and not above the other: each lies above a mark, and no later one below the next
  abbrev pub PutsRise : ℕ → ℕ → (moves : List Move) (old new : World D O T) → WorldRan ghosts takes breaks ops set moves old new → ℕ → Type 0
  PutsRise k low [] old new ran high = low ≤ high
  PutsRise k low (Started n ∷ moves) old new ran high = PutsRise k low moves ran.0 new ran.2 high
  PutsRise k low (Stepped n more ∷ moves) old new ran high = (mark : ℕ) × (low ≤ mark)
      × ((f : Flying) → PutBegins k ran.1.claim ran.1.later f → LiesIn low mark f) × PutsRise k mark moves ran.0 new ran.2 high
  PutsRise k low (Ended n log ∷ moves) old new ran high = PutsRise k low moves ran.0 new ran.2 high
  PutsRise k low (Struck ∷ moves) old new ran high = PutsRise k low moves ran.0 new ran.2 high
  PutsRise k low (Hurt ∷ moves) old new ran high = PutsRise k low moves ran.0 new ran.2 high

module _ {D O T : Type 0} (ghosts : Ghosts D) (takes breaks : Effect T) (ops : Ops O) where
  -- over any moves the puts that begin in a slot have rising numbers, above the last that it drew before
  abbrev pub PutIdsRise : Type 0
  PutIdsRise = (set : SetPlan) (moves : List Move) (old new : World D O T) (ran : WorldRan ghosts takes breaks ops set moves old new)
      (k : ℕ) (was now : SlotSeen D) → AreInOrder set old.slots old.disks → IsSlotAt old.slots k was → IsSlotAt new.slots k now
      → PutsRise ghosts takes breaks ops set k (last_of was.numbers) moves old new ran (last_of now.numbers)
