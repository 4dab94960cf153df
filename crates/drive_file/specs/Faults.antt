-- Counts of faults, by the answers of calls.
use Rattle.std.specs.Prelude.{◌≡◌, ℕ, Result, Ok, Err}
use Rattle.fault_base.specs.Counts.{Rose}
use Rattle.drive_base.specs.declared.fault.DriveFault.{DriveFault}
use Rattle.drive_base.specs.declared.fault.DriveFault.TheVariants.{Absent, Failed, NoMemory}

-- the count after a call with this answer: it rises with `Failed` and with no other
abbrev pub FaultsAfter : {T : Type 0} → Result T DriveFault → ℕ → ℕ → Type 0
FaultsAfter (Ok _) old new = new ≡ old
FaultsAfter (Err Absent) old new = new ≡ old
FaultsAfter (Err Failed) old new = Rose old new
FaultsAfter (Err NoMemory) old new = new ≡ old
