-- What a reader answers.
use Rattle.std.specs.Prelude.{ℕ, List}
use Rattle.drive_base.specs.declared.plan.SetPlan.{SetPlan}
use Rattle.get_read.specs.Causes.{Wanted}

-- what is wanted of a set
abbrev pub wanted_of : SetPlan → List ℕ → ℕ → Wanted
wanted_of set print reach = record { drives = set.drives; parity = set.parity; print = print; reach = reach }
