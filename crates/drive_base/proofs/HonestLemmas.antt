-- No call of a drive makes damage dishonest.
use Rattle.std.proofs.Common.{◌≡◌, ◌⊎◌, ℕ, Bool, true, false, cond, List, Option, Some, None, refl, ap, inl, inr, Ok, Err}
use Rattle.std.specs.Str.{bytes_eq}
use Rattle.drive_base.specs.declared.fault.DriveFault.TheVariants.{Absent, Failed, NoMemory}
use Rattle.drive_base.specs.Files.{Files, LooseFile, with_loose, with_placed}
use Rattle.drive_base.specs.Leaves.{AnyLoose, Placed, PlacedOrNot}
use Rattle.drive_base.specs.View.{DriveView}
use Rattle.drive_base.specs.DriveModel.{FilesAfter}
use Rattle.drive_base.specs.Trail.{DriveCall, Size, Read, Append, Sync, Rename, Discard, Remove, Names}
use Rattle.drive_base.specs.HonestDamage.{KeepsHonesty, IsHonestAt, CallsKeepHonesty}

-- honest damage stays so over such a change
pub honest_after : (IsDamaged : Option (List ℕ) → List ℕ → Type 0) (name : List ℕ) (old new : Files)
    → KeepsHonesty name old new → IsHonestAt IsDamaged name old → IsHonestAt IsDamaged name new
honest_after IsDamaged name old new keeps honest = elim keeps [
  | inl same ↦ inl same
  | inr stays ↦ rw (stays.0, stays.1) honest
]

-- files that are as they were
same_keeps : (name : List ℕ) (old new : Files) → new ≡ old → KeepsHonesty name old new
same_keeps name old new e = inr (ap (λ (files : Files). files.kept name) e, ap (λ (files : Files). files.shown name) e)

-- a change of a loose file
loose_keeps : (name : List ℕ) (old : Files) (loose : List ℕ) (w : Option LooseFile) (new : Files) → new ≡ with_loose old loose w → KeepsHonesty name old new
loose_keeps name old loose w new e = inr (ap (λ (files : Files). files.kept name) e, ap (λ (files : Files). files.shown name) e)

any_loose_keeps : (name : List ℕ) (old : Files) (loose : List ℕ) (new : Files) → AnyLoose old loose new → KeepsHonesty name old new
any_loose_keeps name old loose new any = loose_keeps name old loose any.0 new any.1

-- a file is put in place, or taken away, under its own name or under another one
chosen_keeps : (b : Bool) (w kept shown : Option (List ℕ)) → (cond b w shown ≡ cond b w kept) ⊎ ((cond b w kept ≡ kept) × (cond b w shown ≡ shown))
chosen_keeps true w kept shown = inl refl
chosen_keeps false w kept shown = inr (refl, refl)

placed_keeps : (name : List ℕ) (old : Files) (at : List ℕ) (w : Option (List ℕ)) → KeepsHonesty name old (with_placed old at w)
placed_keeps name old at w = chosen_keeps (bytes_eq at name) w (old.kept name) (old.shown name)

-- a change of a loose file after another change
then_loose : (name : List ℕ) (old done : Files) (loose : List ℕ) (new : Files) → KeepsHonesty name old done → AnyLoose done loose new → KeepsHonesty name old new
then_loose name old done loose new keeps any = rw any.1 keeps

rename_keeps : (name : List ℕ) (old : Files) (loose at : List ℕ) (new : Files) → Placed old loose at new → KeepsHonesty name old new
rename_keeps name old loose at new placed = rw placed.is (placed_keeps name (with_loose old loose None) at (Some placed.bytes))

perhaps_keeps : (name : List ℕ) (old : Files) (loose at : List ℕ) (new : Files) → PlacedOrNot old loose at new → KeepsHonesty name old new
perhaps_keeps name old loose at new perhaps = elim perhaps [
  | inl any ↦ any_loose_keeps name old loose new any
  | inr done ↦ then_loose name old done.0 loose new (rename_keeps name old loose at done.0 done.1) done.2
]

removed_keeps : (name : List ℕ) (old : Files) (at : List ℕ) (new : Files) → new ≡ with_placed old at None → KeepsHonesty name old new
removed_keeps name old at new e = rw e (placed_keeps name old at None)

-- the change that each call makes
files_keep : (name : List ℕ) (call : DriveCall) (old new : DriveView) → FilesAfter call old new → KeepsHonesty name old.files new.files
files_keep name (Size at (Ok n)) old new h = same_keeps name old.files new.files h.1
files_keep name (Size at (Err Absent)) old new h = same_keeps name old.files new.files h.1
files_keep name (Size at (Err Failed)) old new h = same_keeps name old.files new.files h
files_keep name (Size at (Err NoMemory)) old new h = absurd h
files_keep name (Read at from before (Ok n) after) old new h = same_keeps name old.files new.files h.1
files_keep name (Read at from before (Err Absent) after) old new h = same_keeps name old.files new.files h.1
files_keep name (Read at from before (Err Failed) after) old new h = same_keeps name old.files new.files h
files_keep name (Read at from before (Err NoMemory) after) old new h = absurd h
files_keep name (Append loose bytes (Ok done)) old new h = any_loose_keeps name old.files loose new.files (_, h)
files_keep name (Append loose bytes (Err Absent)) old new h = absurd h
files_keep name (Append loose bytes (Err Failed)) old new h = any_loose_keeps name old.files loose new.files h
files_keep name (Append loose bytes (Err NoMemory)) old new h = absurd h
files_keep name (Sync loose (Ok done)) old new h = any_loose_keeps name old.files loose new.files (_, h.2)
files_keep name (Sync loose (Err Absent)) old new h = same_keeps name old.files new.files h.1
files_keep name (Sync loose (Err Failed)) old new h = any_loose_keeps name old.files loose new.files h
files_keep name (Sync loose (Err NoMemory)) old new h = absurd h
files_keep name (Rename loose at (Ok done)) old new h = rename_keeps name old.files loose at new.files h
files_keep name (Rename loose at (Err Absent)) old new h = same_keeps name old.files new.files h.1
files_keep name (Rename loose at (Err Failed)) old new h = perhaps_keeps name old.files loose at new.files h
files_keep name (Rename loose at (Err NoMemory)) old new h = absurd h
files_keep name (Discard loose (Ok done)) old new h = loose_keeps name old.files loose None new.files h.1
files_keep name (Discard loose (Err Absent)) old new h = same_keeps name old.files new.files h.1
files_keep name (Discard loose (Err Failed)) old new h = any_loose_keeps name old.files loose new.files h
files_keep name (Discard loose (Err NoMemory)) old new h = absurd h
files_keep name (Remove at (Ok done)) old new h = removed_keeps name old.files at new.files h.1
files_keep name (Remove at (Err Absent)) old new h = same_keeps name old.files new.files h.1
files_keep name (Remove at (Err Failed)) old new h = elim h [ inl same ↦ same_keeps name old.files new.files same | inr gone ↦ removed_keeps name old.files at new.files gone ]
files_keep name (Remove at (Err NoMemory)) old new h = absurd h
files_keep name (Names from most (Ok names)) old new h = same_keeps name old.files new.files h.1
files_keep name (Names from most (Err Absent)) old new h = absurd h
files_keep name (Names from most (Err Failed)) old new h = same_keeps name old.files new.files h
files_keep name (Names from most (Err NoMemory)) old new h = same_keeps name old.files new.files h

-- each call of a drive that tells
pub calls_keep_honesty : CallsKeepHonesty
calls_keep_honesty name call old new told model = files_keep name call old new (model.files told)
