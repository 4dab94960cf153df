-- The promise of the program.
use Rattle.std.specs.Prelude.{◌≡◌, ◌⊎◌, ℕ, List, Option, String}
use Rattle.audit_trail.specs.declared.entry.Entry.{Entry}
use Rattle.drive_base.specs.declared.drive.Drive.{Ghosts}
use Rattle.serve_loop.specs.Deeds.{Wires}
use Rattle.ostore.specs.Rigs.{IsRigOf}
use Rattle.ostore.specs.Running.{DidNothing, Pipes}
use Rattle.ostore.specs.Statuses.{out_of_memory, usage}
use Rattle.ostore.specs.Surveying.{Surveyed}
use Rattle.command_line.specs.Words.{Says}
use Rattle.command_line.specs.declared.plan.Command.{Command}
use Rattle.command_line.specs.declared.plan.Command.TheVariants.{Pipe, Serve, Status}
use Rattle.command_line.specs.declared.plan.Plan.{Plan}
use Rattle.ostore.specs.declared.rig.Ended.{Ended}
use Rattle.ostore.specs.declared.rig.Rig.{Rig}

module _ {D A : Type 0} (ghosts : Ghosts D) (entries : A → Option (List Entry)) (count : A → ℕ) where
  -- nothing was done: the words say nothing that is done, or there was no memory to read them
  abbrev pub EndsUndone : Rig D A → Ended D A (Unit {0}) → Wires → Wires → Type 0
  EndsUndone rig ended before after = DidNothing ghosts entries count usage rig ended before after ⊎ DidNothing ghosts entries count out_of_memory rig ended before after

  -- what a command comes to; want of memory before it begins leaves all
  abbrev pub Does : Command → Option ℕ → Rig D A → Ended D A (Unit {0}) → Wires → Wires → Type 0
  Does Pipe clock rig ended before after = Pipes ghosts entries count clock rig ended before after ⊎ DidNothing ghosts entries count out_of_memory rig ended before after
  Does Status clock rig ended before after = Surveyed ghosts rig ended before after ⊎ DidNothing ghosts entries count out_of_memory rig ended before after
  Does Serve clock rig ended before after = EndsUndone rig ended before after

module _ {D A S : Type 0} (ghosts : Ghosts D) (entries : A → Option (List Entry)) (count : A → ℕ) where
  -- a run of a command without doors ended with this status: it did what the command does; `wires_after` are the wires where this is left of the source
  pub record EndsWith (command : Command) (clock : Option ℕ) (rig : Rig D A) (before : Wires) (wires_after : S → Wires) (status : ℕ) : Type 0 where
    pub source : S
    pub ended : Ended D A (Unit {0})
    pub does : Does ghosts entries count command clock rig ended before (wires_after source)
    pub status_is : status ≡ ended.status

-- words are no command line
abbrev pub SaysNothing : {Y : Type 0} → List (String Y) → Type 0
SaysNothing words = (plan : Plan) → Says words plan → ⊥

-- the rig is that which the words say
abbrev pub Fits : {D A Y : Type 0} → List (String Y) → Rig D A → Type 0
Fits words rig = (plan : Plan) → Says words plan → IsRigOf plan.set rig
