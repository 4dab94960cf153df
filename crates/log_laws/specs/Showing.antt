-- Where entries run with what their sections showed: they run as a history does, such runs join, and they part at each section.
use Rattle.std.specs.Prelude.{ℕ, List, ◌∷◌, ◌++◌, Some}
use Rattle.slot_history.specs.Moving.{Moves, Runs}
use Rattle.slot_history.specs.State.{State}
use Rattle.op_steps.specs.Moves.{ShowsBy}
use Rattle.op_steps.specs.Leading.{Entered, RunsShowing, entries_of}

-- where entries run with what their sections showed, they run
abbrev pub ShowingRuns : Type 0
ShowingRuns = (slot : ℕ) (run : List Entered) (old new : State) → RunsShowing slot run old new → Runs slot (entries_of run) old new

-- such runs join
abbrev pub ShowingJoins : Type 0
ShowingJoins = (slot : ℕ) (first second : List Entered) (old mid new : State) → RunsShowing slot first old mid → RunsShowing slot second mid new
    → RunsShowing slot (first ++ second) old new

-- and each section of one showed what was so between those before it and those after it
abbrev pub ShowingParts : Type 0
ShowingParts = (slot : ℕ) (first : List Entered) (e : Entered) (second : List Entered) (old new : State) → RunsShowing slot (first ++ e ∷ second) old new
    → (before after : State) × RunsShowing slot first old before × Moves slot e.entry before after × ShowsBy (Some e.entry) e.shown before after
    × RunsShowing slot second after new
