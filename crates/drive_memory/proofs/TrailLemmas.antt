-- What is exactly said of a call stays so where the trail alone grows after it.
use Rattle.std.specs.Prelude.{List, Result, Ok, Err}
use Rattle.std.proofs.Common.{inl, inr}
use Rattle.drive_base.specs.declared.fault.DriveFault.{DriveFault}
use Rattle.drive_base.specs.declared.fault.DriveFault.TheVariants.{Absent, Failed, NoMemory}
use Rattle.drive_base.specs.Trail.{DriveCall}
use Rattle.drive_memory.specs.Exact.{Answered, FailedLost, FailedSpent, FailedLate, FailedStarved, FailsReading, ReadsExactly, ChangesExactly}
use Rattle.drive_memory.specs.declared.drive.MemDrive.{MemDrive}

-- the drive with this trail
abbrev pub with_trail : MemDrive → List DriveCall → MemDrive
with_trail drive trail = record drive { trail = trail }

module _ (old mid : MemDrive) (trail : List DriveCall) where
  answered : Answered old mid → Answered old (with_trail mid trail)
  answered h = record { present = h.present; unspent = h.unspent; not_due = h.not_due; stays_present = h.stays_present; fuse = h.fuse; faults = h.faults; starved = h.starved }

  lost : FailedLost old mid → FailedLost old (with_trail mid trail)
  lost h = record { lost = h.lost; stays_lost = h.stays_lost; fuse = h.fuse; faults = h.faults; starved = h.starved; files = h.files }

  spent : FailedSpent old mid → FailedSpent old (with_trail mid trail)
  spent h = record { present = h.present; spent = h.spent; stays_present = h.stays_present; fuse = h.fuse; faults = h.faults; starved = h.starved; files = h.files }

  late : {Done : Type 0} → FailedLate Done old mid → FailedLate Done old (with_trail mid trail)
  late h = record { present = h.present; due = h.due; stays_present = h.stays_present; fuse = h.fuse; faults = h.faults; starved = h.starved; done = h.done }

  starved : {Left : Type 0} → FailedStarved Left old mid → FailedStarved Left old (with_trail mid trail)
  starved h = record { present = h.present; unspent = h.unspent; stays_present = h.stays_present; fuse = h.fuse; faults = h.faults; starved = h.starved; left = h.left }

  fails_reading : FailsReading old mid → FailsReading old (with_trail mid trail)
  fails_reading (inl h) = inl (lost h)
  fails_reading (inr (inl h)) = inr (inl (spent h))
  fails_reading (inr (inr h)) = inr (inr (late h))

  pub reads_exactly : {T : Type 0} (r : Result T DriveFault) → ReadsExactly old r mid → ReadsExactly old r (with_trail mid trail)
  reads_exactly (Ok t) h = answered h
  reads_exactly (Err Absent) h = answered h
  reads_exactly (Err Failed) h = fails_reading h
  reads_exactly (Err NoMemory) h = answered h

  pub changes_exactly : (Does : Result (Unit {0}) DriveFault → Type 0) (r : Result (Unit {0}) DriveFault)
      → ChangesExactly Does old r mid → ChangesExactly Does old r (with_trail mid trail)
  changes_exactly Does (Ok t) h = (answered h.0, h.1)
  changes_exactly Does (Err Absent) h = (answered h.0, h.1)
  changes_exactly Does (Err Failed) (inl h) = inl (lost h)
  changes_exactly Does (Err Failed) (inr (inl h)) = inr (inl (spent h))
  changes_exactly Does (Err Failed) (inr (inr (inl h))) = inr (inr (inl (late h)))
  changes_exactly Does (Err Failed) (inr (inr (inr h))) = inr (inr (inr (starved h)))
  changes_exactly Does (Err NoMemory) h = h
