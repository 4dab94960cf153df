-- Counted faults: which answers a call may give, and when a count rises.
use Rattle.std.specs.Prelude.{◌≡◌, ℕ, Result, Ok, Err}
use Rattle.fault_base.specs.Counts.{Rose}
use Rattle.drive_base.specs.declared.fault.DriveFault.{DriveFault}
use Rattle.drive_base.specs.declared.fault.DriveFault.TheVariants.{Absent, Failed, NoMemory}

-- the faults of a call that may answer `Absent`: the count rises with `Failed` and with no other answer
abbrev pub Counts : {T : Type 0} → Result T DriveFault → ℕ → ℕ → Type 0
Counts (Ok _) old new = new ≡ old
Counts (Err Absent) old new = new ≡ old
Counts (Err Failed) old new = Rose old new
Counts (Err NoMemory) old new = ⊥

-- the faults of a call that answers Ok or `Failed`
abbrev pub CountsAppend : {T : Type 0} → Result T DriveFault → ℕ → ℕ → Type 0
CountsAppend (Ok _) old new = new ≡ old
CountsAppend (Err Absent) old new = ⊥
CountsAppend (Err Failed) old new = Rose old new
CountsAppend (Err NoMemory) old new = ⊥

-- the faults of a listing, which never answers `Absent`
abbrev pub CountsNames : {T : Type 0} → Result T DriveFault → ℕ → ℕ → Type 0
CountsNames (Ok _) old new = new ≡ old
CountsNames (Err Absent) old new = ⊥
CountsNames (Err Failed) old new = Rose old new
CountsNames (Err NoMemory) old new = new ≡ old
