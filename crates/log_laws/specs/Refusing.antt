-- Where in a log its events took place, and why its sections were refused or could not be done, and its calls gave what they gave.
use Rattle.std.specs.Prelude.{◌≡◌, ℕ, ◌∷◌, ◌++◌, Contains, Some}
use Rattle.call_types.specs.declared.refusal.Refusal.{Refusal}
use Rattle.desk_base.specs.Telling.{Effect}
use Rattle.drive_base.specs.Calls.{MadeCall, Seen, WasMade}
use Rattle.drive_base.specs.View.{view_at}
use Rattle.drive_base.specs.declared.drive.Drive.{Ghosts}
use Rattle.drive_base.specs.declared.plan.SetPlan.{SetPlan}
use Rattle.file_access.specs.Sights.{WasSo}
use Rattle.receipts.specs.Events.{Event, Log, Note, Saw, Shown}
use Rattle.receipts.specs.Events.Event.{BarredFrom, Called, Turned}
use Rattle.receipts.specs.declared.barred.Barred.{Barred}
use Rattle.op_steps.specs.Calls.{MayCall}
use Rattle.op_steps.specs.Causes.{RefusalCause}
use Rattle.op_steps.specs.Moves.{BarCause}
use Rattle.op_steps.specs.Steps.{Ran, StepMoves}
use Rattle.op_steps.specs.Store.{Store}

module _ {D T : Type 0} (ghosts : Ghosts D) (takes breaks : Effect T) where
  -- an event of a log took place: the log led to a store before it, the event was a step from there to another store, and from that the log led on
  pub record TookPlace (set : SetPlan) (log : Log) (old new : Store D T) (event : Event) : Type 0 where
    pub front : Log
    pub rest : Log
    pub parts : log ≡ front ++ event ∷ rest
    pub before : Store D T
    pub after : Store D T
    pub led : Ran ghosts takes breaks set front old before
    pub step : StepMoves ghosts takes breaks set event before after
    pub leads_on : Ran ghosts takes breaks set rest after new

  -- each event of a log did
  abbrev pub EventsTookPlace : Type 0
  EventsTookPlace = (set : SetPlan) (log : Log) (old new : Store D T) (event : Event) → Ran ghosts takes breaks set log old new → Contains log event
      → TookPlace set log old new event

  -- each section of a log that was refused has its cause, in the stores between which it took place
  abbrev pub RefusalsHaveCauses : Type 0
  RefusalsHaveCauses = (set : SetPlan) (log : Log) (old new : Store D T) (k : ℕ) (note : Note) (shown : Shown) (why : Refusal)
      → Ran ghosts takes breaks set log old new → Contains log (Turned k (Some note) shown) → note.refusal ≡ Some why
      → (x : TookPlace set log old new (Turned k (Some note) shown))
      × RefusalCause ghosts why note.entry x.step.was x.step.now x.before.claim x.before.disks x.step.disks

  -- so has each section that could not be done
  abbrev pub BarsHaveCauses : Type 0
  BarsHaveCauses = (set : SetPlan) (log : Log) (old new : Store D T) (k : ℕ) (why : Barred) → Ran ghosts takes breaks set log old new
      → Contains log (BarredFrom k why) → (x : TookPlace set log old new (BarredFrom k why)) × BarCause why x.step.was.numbers

  -- a call of a log was made of its drive when it took place, and was one that its op might make
  abbrev pub CallsWereMade : Type 0
  CallsWereMade = (set : SetPlan) (log : Log) (old new : Store D T) (k : ℕ) (made : MadeCall) → Ran ghosts takes breaks set log old new
      → Contains log (Called k made)
      → (x : TookPlace set log old new (Called k made)) × WasMade made (view_at x.before.disks k) (view_at x.after.disks k)
      × MayCall x.before.claim made.call

  -- and what it told was so
  abbrev pub CallsWereSo : Type 0
  CallsWereSo = (set : SetPlan) (log : Log) (old new : Store D T) (k : ℕ) (seen : Seen) → Ran ghosts takes breaks set log old new → (saw : Saw log k seen)
      → (x : TookPlace set log old new (Called k saw.made)) × WasSo seen (view_at x.before.disks k) (view_at x.after.disks k)
