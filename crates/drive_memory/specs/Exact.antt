-- When the calls of a memory drive fail, what a failed call counts, and how a call moves the fuse.
use Rattle.std.specs.Prelude.{◌≡◌, ◌⊎◌, ℕ, ◌+◌, min, true, false, Result, Ok, Err}
use Rattle.fault_base.specs.Counts.{Rose}
use Rattle.drive_base.specs.declared.fault.DriveFault.{DriveFault}
use Rattle.drive_base.specs.declared.fault.DriveFault.TheVariants.{Absent, Failed, NoMemory}
use Rattle.drive_memory.specs.Fuses.{is_spent, is_due, burned}
use Rattle.drive_memory.specs.MemDrive.{files_of, fault_count, starved_count, is_lost, fuse_of}
use Rattle.drive_memory.specs.declared.drive.MemDrive.{MemDrive}

-- a count rose by one, or stays at the last value of a `u64`
abbrev pub RoseByOne : ℕ → ℕ → Type 0
RoseByOne old new = Rose old new × (new ≡ min (old + 1) 18446744073709551615)

-- a call that the drive did, or that it refused with no fault
pub record Answered (old new : MemDrive) : Type 0 where
  pub present : is_lost old ≡ false
  pub unspent : is_spent (fuse_of old) ≡ false
  pub not_due : is_due (fuse_of old) ≡ false
  pub stays_present : is_lost new ≡ false
  pub fuse : fuse_of new ≡ burned (fuse_of old)
  pub faults : fault_count new ≡ fault_count old
  pub starved : starved_count new ≡ starved_count old

-- a call on a lost drive, which changes its count of faults alone
pub record FailedLost (old new : MemDrive) : Type 0 where
  pub lost : is_lost old ≡ true
  pub stays_lost : is_lost new ≡ true
  pub fuse : fuse_of new ≡ fuse_of old
  pub faults : RoseByOne (fault_count old) (fault_count new)
  pub starved : starved_count new ≡ starved_count old
  pub files : files_of new ≡ files_of old

-- a call that a spent fuse fails, which changes the count of faults alone
pub record FailedSpent (old new : MemDrive) : Type 0 where
  pub present : is_lost old ≡ false
  pub spent : is_spent (fuse_of old) ≡ true
  pub stays_present : is_lost new ≡ false
  pub fuse : fuse_of new ≡ burned (fuse_of old)
  pub faults : RoseByOne (fault_count old) (fault_count new)
  pub starved : starved_count new ≡ starved_count old
  pub files : files_of new ≡ files_of old

-- a call that a late fuse fails after it was done
pub record FailedLate (Done : Type 0) (old new : MemDrive) : Type 0 where
  pub present : is_lost old ≡ false
  pub due : is_due (fuse_of old) ≡ true
  pub stays_present : is_lost new ≡ false
  pub fuse : fuse_of new ≡ burned (fuse_of old)
  pub faults : RoseByOne (fault_count old) (fault_count new)
  pub starved : starved_count new ≡ starved_count old
  pub done : Done

-- a call that found no memory
pub record FailedStarved (Left : Type 0) (old new : MemDrive) : Type 0 where
  pub present : is_lost old ≡ false
  pub unspent : is_spent (fuse_of old) ≡ false
  pub stays_present : is_lost new ≡ false
  pub fuse : fuse_of new ≡ burned (fuse_of old)
  pub faults : RoseByOne (fault_count old) (fault_count new)
  pub starved : RoseByOne (starved_count old) (starved_count new)
  pub left : Left

-- a call that only reads fails exactly where the drive is lost or its fuse fails it; the files stay as they are
abbrev pub FailsReading : MemDrive → MemDrive → Type 0
FailsReading old new = FailedLost old new ⊎ (FailedSpent old new ⊎ FailedLate (files_of new ≡ files_of old) old new)

-- a call that only reads, by its answer
abbrev pub ReadsExactly : {T : Type 0} → MemDrive → Result T DriveFault → MemDrive → Type 0
ReadsExactly old (Ok _) new = Answered old new
ReadsExactly old (Err Absent) new = Answered old new
ReadsExactly old (Err Failed) new = FailsReading old new
ReadsExactly old (Err NoMemory) new = Answered old new

-- a call that changes files fails exactly where the drive is lost, its fuse fails it, or no memory was found. Does says what
-- it does where nothing but memory is short, by its answer; a late fuse fails it after it did that
abbrev pub ChangesExactly : (Result (Unit {0}) DriveFault → Type 0) → MemDrive → Result (Unit {0}) DriveFault → MemDrive → Type 0
ChangesExactly Does old (Ok t) new = Answered old new × Does (Ok t)
ChangesExactly Does old (Err Absent) new = Answered old new × Does (Err Absent)
ChangesExactly Does old (Err Failed) new =
    FailedLost old new ⊎ (FailedSpent old new ⊎ (FailedLate (Does (Ok tt) ⊎ Does (Err Absent)) old new ⊎ FailedStarved (Does (Err Failed)) old new))
ChangesExactly Does old (Err NoMemory) new = ⊥
