-- What follows from the exact contract of a call that changes files.
use Rattle.std.specs.Prelude.{◌≡◌, ℕ, false, List, ◌++◌, Some, None, Result, Ok, Err, refl}
use Rattle.std.proofs.Common.{inl, inr}
use Rattle.drive_base.specs.Faults.{Counts, CountsAppend}
use Rattle.fault_base.specs.Counts.{Rose}
use Rattle.drive_base.specs.Files.{Files}
use Rattle.drive_base.specs.Leaves.{AnyLoose, AppendLeaves, Placed, PlacedOrNot, RenameLeaves, loose_bytes}
use Rattle.drive_base.specs.declared.fault.DriveFault.{DriveFault}
use Rattle.drive_base.specs.declared.fault.DriveFault.TheVariants.{Absent, Failed, NoMemory}
use Rattle.drive_memory.proofs.FilesLemmas.{AnyLoose-same, placed_bytes-synced}
use Rattle.drive_memory.specs.Does.{AppendDoes, RenameDoes, placed_bytes}
use Rattle.drive_memory.specs.Exact.{ChangesExactly}
use Rattle.drive_memory.specs.MemDrive.{files_of, fault_count}
use Rattle.drive_memory.specs.declared.drive.MemDrive.{MemDrive}

module _ (Does : Result (Unit {0}) DriveFault → Type 0) (old new : MemDrive) where
  -- a failed call raised the count
  failed-rose : ChangesExactly Does old (Err Failed) new → Rose (fault_count old) (fault_count new)
  failed-rose (inl h) = h.faults.0
  failed-rose (inr (inl h)) = h.faults.0
  failed-rose (inr (inr (inl h))) = h.faults.0
  failed-rose (inr (inr (inr h))) = h.faults.0

  -- the count rises with `Failed` alone
  pub counts_changes : (result : Result (Unit {0}) DriveFault) → ChangesExactly Does old result new → Counts result (fault_count old) (fault_count new)
  counts_changes (Ok t) h = h.0.faults
  counts_changes (Err Absent) h = h.0.faults
  counts_changes (Err Failed) h = failed-rose h
  counts_changes (Err NoMemory) h = absurd h

  -- and so it does where the call never answers `Absent`
  pub counts_append : (Does (Err Absent) → ⊥) → (result : Result (Unit {0}) DriveFault) → ChangesExactly Does old result new → CountsAppend result (fault_count old) (fault_count new)
  counts_append never (Ok t) h = h.0.faults
  counts_append never (Err Absent) h = never h.1
  counts_append never (Err Failed) h = failed-rose h
  counts_append never (Err NoMemory) h = absurd h

  -- what a failed call may leave, by what it does and by what leaves the files as they were
  pub failed_leaves : (Left : Type 0) → (files_of new ≡ files_of old → Left) → (Does (Ok tt) → Left) → (Does (Err Absent) → Left) → (Does (Err Failed) → Left)
      → ChangesExactly Does old (Err Failed) new → Left
  failed_leaves Left same done absent starved (inl h) = same h.files
  failed_leaves Left same done absent starved (inr (inl h)) = same h.files
  failed_leaves Left same done absent starved (inr (inr (inl h))) = elim h.done [ inl d ↦ done d | inr a ↦ absent a ]
  failed_leaves Left same done absent starved (inr (inr (inr h))) = starved h.left

-- what `append` leaves
pub append_leaves : (old new : MemDrive) (loose bytes : List ℕ) (result : Result (Unit {0}) DriveFault)
    → ChangesExactly (λ done. AppendDoes (files_of old) loose bytes done (files_of new)) old result new
    → AppendLeaves (files_of old) loose bytes result (files_of new)
append_leaves old new loose bytes (Ok t) h = h.1
append_leaves old new loose bytes (Err Absent) h = absurd h.1
append_leaves old new loose bytes (Err Failed) h =
    failed_leaves (λ done. AppendDoes (files_of old) loose bytes done (files_of new)) old new (AnyLoose (files_of old) loose (files_of new))
    (AnyLoose-same (files_of old) (files_of new) loose)
    (λ d. (Some (record { bytes = loose_bytes ((files_of old).loose loose) ++ bytes; synced = false }), d))
    (λ a. absurd a)
    (AnyLoose-same (files_of old) (files_of new) loose)
    h
append_leaves old new loose bytes (Err NoMemory) h = absurd h

-- `rename` puts a file in place as the trait lets it
placed_of : (old new : Files) (loose name : List ℕ) → RenameDoes old loose name (Ok tt) new → Placed old loose name new
placed_of old new loose name (file, was, is) = record { file = file; was = was; bytes = placed_bytes file; synced = placed_bytes-synced file; is = is }

-- what `rename` leaves
pub rename_leaves : (old new : MemDrive) (loose name : List ℕ) (result : Result (Unit {0}) DriveFault)
    → ChangesExactly (λ done. RenameDoes (files_of old) loose name done (files_of new)) old result new
    → RenameLeaves (files_of old) loose name result (files_of new)
rename_leaves old new loose name (Ok t) h = placed_of (files_of old) (files_of new) loose name h.1
rename_leaves old new loose name (Err Absent) h = h.1
rename_leaves old new loose name (Err Failed) h =
    failed_leaves (λ done. RenameDoes (files_of old) loose name done (files_of new)) old new (PlacedOrNot (files_of old) loose name (files_of new))
    (λ e. inl (AnyLoose-same (files_of old) (files_of new) loose e))
    (λ d. inr (files_of new, placed_of (files_of old) (files_of new) loose name d, AnyLoose-same (files_of new) (files_of new) loose refl))
    (λ a. inl (AnyLoose-same (files_of old) (files_of new) loose a.1))
    (λ s. inl (None, s.1))
    h
rename_leaves old new loose name (Err NoMemory) h = absurd h
