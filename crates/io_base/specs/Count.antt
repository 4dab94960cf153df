-- How the faults of an object are counted.
use Rattle.std.specs.Prelude.{◌≡◌, ℕ, Result, Ok, Err}
use Rattle.fault_base.specs.Counts.{Rose}

-- a call that failed raised the count, and any other left it
abbrev pub CountsFault : {A E : Type 0} → Result A E → ℕ → ℕ → Type 0
CountsFault (Ok _) old new = new ≡ old
CountsFault (Err _) old new = Rose old new
