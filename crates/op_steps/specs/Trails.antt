-- The calls of a data drive in a log are the calls that were made of it: its trail grows by them, by what sections read, and by nothing else.
use Rattle.std.specs.Prelude.{◌≡◌, ℕ, if◌then◌else◌, List, [], ◌∷◌, nat_eq}
use Rattle.desk_base.specs.Telling.{Effect}
use Rattle.drive_base.specs.Trail.{DriveCall, GrewByReadings}
use Rattle.drive_base.specs.View.{view_at}
use Rattle.drive_base.specs.declared.drive.Drive.{Ghosts}
use Rattle.drive_base.specs.declared.plan.SetPlan.{SetPlan}
use Rattle.receipts.specs.Events.{Event, Log}
use Rattle.receipts.specs.Events.Event.{BarredFrom, Called, Fed, Told, Turned}
use Rattle.op_steps.specs.Steps.{Ran}
use Rattle.op_steps.specs.Store.{Store}

-- what an event adds to the trail of drive k: its call, where it is of that drive; readings alone, where it is a section; else nothing
abbrev pub AddsCalls : ℕ → Event → List DriveCall → List DriveCall → Type 0
AddsCalls k (Turned slot made shown) old new = GrewByReadings old new
AddsCalls k (BarredFrom slot why) old new = new ≡ old
AddsCalls k (Called drive made) old new = new ≡ (if nat_eq drive k then made.call ∷ old else old)
AddsCalls k (Fed bytes cut) old new = new ≡ old
AddsCalls k (Told telling cut) old new = new ≡ old

-- a log's calls of drive k lead from one trail of it to another
abbrev pub LeadsTrail : ℕ → Log → List DriveCall → List DriveCall → Type 0
LeadsTrail k [] old new = new ≡ old
LeadsTrail k (event ∷ log) old new = (mid : List DriveCall) × AddsCalls k event old mid × LeadsTrail k log mid new

module _ {D T : Type 0} (ghosts : Ghosts D) (takes breaks : Effect T) where
  -- over a log they do so for each drive
  abbrev pub LogsAreTrails : Type 0
  LogsAreTrails = (set : SetPlan) (log : Log) (old new : Store D T) → Ran ghosts takes breaks set log old new
      → (k : ℕ) → LeadsTrail k log (view_at old.disks k).trail (view_at new.disks k).trail
