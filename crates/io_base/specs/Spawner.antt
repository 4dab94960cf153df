-- How a spawner does works.
use Rattle.std.specs.Prelude.{◌≡◌, ℕ, List, [], map}
use Rattle.io_base.specs.declared.spawner.Spawner.{Spawner}
use Rattle.io_base.specs.declared.spawner.Spawner.TheVariants.{Threads, InTurn}
use Rattle.io_base.specs.Turns.{RunsInTurn}

-- how many works could not be started, and for works in turn how often no memory was found
abbrev pub spawner_faults : Spawner → ℕ
spawner_faults Threads = 0
spawner_faults (InTurn turns) = turns.faults

-- exactly what a run of works does: with real threads each is done, at its place
abbrev pub Runs : {W K : Type 0} → (W → K) → Spawner → Spawner → List W → List W → List W → Type 0
Runs kept Threads Threads works done left = (map kept done ≡ map kept works) × (left ≡ [])
Runs kept Threads (InTurn _) works done left = ⊥
Runs kept (InTurn old) (InTurn new) works done left = RunsInTurn kept old new works done left
Runs kept (InTurn _) Threads works done left = ⊥
