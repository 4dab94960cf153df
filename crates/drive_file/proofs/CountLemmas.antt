-- Counts of faults: those that a way to a drive met itself, from what its drive answered, and those of a drive over a folder.
use Rattle.std.specs.Prelude.{◌≡◌, ℕ, List, Result, Ok, Err, Vec, String}
use Rattle.std.proofs.Common.{◌∙◌, subst}
use Rattle.fault_base.specs.Counts.{Rose}
use Rattle.drive_base.specs.declared.fault.DriveFault.{DriveFault}
use Rattle.drive_base.specs.declared.fault.DriveFault.TheVariants.{Absent, Failed, NoMemory}
use Rattle.drive_base.specs.Faults.{Counts, CountsAppend, CountsNames}
use Rattle.drive_base.specs.Trail.{Size, Read, Append, Sync, Rename, Discard, Remove}
use Rattle.drive_file.specs.Asks.{FolderView, AsksFolder}
use Rattle.drive_file.specs.Calls.{ListsKnown}
use Rattle.drive_file.specs.Faults.{FaultsAfter}
use Rattle.drive_file.specs.declared.drive.FileDrive.{FileDrive}

module _ {T : Type 0} (before after old new : ℕ) where
  -- an answer that the drive may give is counted by the way as the drive would
  pub counts_met : (answer : Result T DriveFault) → Counts answer before after → FaultsAfter answer old new → Counts answer old new
  counts_met (Ok t) theirs ours = ours
  counts_met (Err Absent) theirs ours = ours
  counts_met (Err Failed) theirs ours = ours
  counts_met (Err NoMemory) theirs ours = theirs

  -- so it is for an append
  pub appends_met : (answer : Result T DriveFault) → CountsAppend answer before after → FaultsAfter answer old new → CountsAppend answer old new
  appends_met (Ok t) theirs ours = ours
  appends_met (Err Absent) theirs ours = theirs
  appends_met (Err Failed) theirs ours = ours
  appends_met (Err NoMemory) theirs ours = theirs

  -- and for a listing
  pub names_met : (answer : Result T DriveFault) → CountsNames answer before after → FaultsAfter answer old new → CountsNames answer old new
  names_met (Ok t) theirs ours = ours
  names_met (Err Absent) theirs ours = theirs
  names_met (Err Failed) theirs ours = ours
  names_met (Err NoMemory) theirs ours = ours

-- a count that stood until a call was made
module _ (before mid after : ℕ) (stood : mid ≡ before) where
  -- the faults of a call that may be `Absent`
  counted : {T : Type 0} (Is : Result T DriveFault → Type 0) → (Is (Err NoMemory) → ⊥)
      → (r : Result T DriveFault) → Is r → FaultsAfter r mid after → Counts r before after
  counted Is never (Ok t) is h = h ∙ stood
  counted Is never (Err Absent) is h = h ∙ stood
  counted Is never (Err Failed) is h = subst (λ (n : ℕ). Rose n after) stood h
  counted Is never (Err NoMemory) is h = absurd (never is)

  pub counts_size : (here left : FolderView) (name : List ℕ) (r : Result ℕ DriveFault)
      → AsksFolder (Size name r) here left → FaultsAfter r mid after → Counts r before after
  counts_size here left name r = counted (λ (r : Result ℕ DriveFault). AsksFolder (Size name r) here left) (λ asked. asked.calls) r

  pub counts_read : (here left : FolderView) (name : List ℕ) (at : ℕ) (buffer filled : List ℕ) (r : Result ℕ DriveFault)
      → AsksFolder (Read name at buffer r filled) here left → FaultsAfter r mid after → Counts r before after
  counts_read here left name at buffer filled r =
      counted (λ (r : Result ℕ DriveFault). AsksFolder (Read name at buffer r filled) here left) (λ asked. asked.calls) r

  pub counts_append : (here left : FolderView) (loose bytes : List ℕ) (r : Result (Unit {0}) DriveFault)
      → AsksFolder (Append loose bytes r) here left → FaultsAfter r mid after → CountsAppend r before after
  counts_append here left loose bytes (Ok t) asked h = h ∙ stood
  counts_append here left loose bytes (Err Absent) asked h = asked.calls
  counts_append here left loose bytes (Err Failed) asked h = subst (λ (n : ℕ). Rose n after) stood h
  counts_append here left loose bytes (Err NoMemory) asked h = asked.calls

  pub counts_sync : (here left : FolderView) (loose : List ℕ) (r : Result (Unit {0}) DriveFault)
      → AsksFolder (Sync loose r) here left → FaultsAfter r mid after → Counts r before after
  counts_sync here left loose r = counted (λ (r : Result (Unit {0}) DriveFault). AsksFolder (Sync loose r) here left) (λ asked. asked.calls) r

  pub counts_rename : (here left : FolderView) (loose name : List ℕ) (r : Result (Unit {0}) DriveFault)
      → AsksFolder (Rename loose name r) here left → FaultsAfter r mid after → Counts r before after
  counts_rename here left loose name r = counted (λ (r : Result (Unit {0}) DriveFault). AsksFolder (Rename loose name r) here left) (λ asked. asked.calls) r

  pub counts_discard : (here left : FolderView) (loose : List ℕ) (r : Result (Unit {0}) DriveFault)
      → AsksFolder (Discard loose r) here left → FaultsAfter r mid after → Counts r before after
  counts_discard here left loose r = counted (λ (r : Result (Unit {0}) DriveFault). AsksFolder (Discard loose r) here left) (λ asked. asked.calls) r

  pub counts_remove : (here left : FolderView) (name : List ℕ) (r : Result (Unit {0}) DriveFault)
      → AsksFolder (Remove name r) here left → FaultsAfter r mid after → Counts r before after
  counts_remove here left name r = counted (λ (r : Result (Unit {0}) DriveFault). AsksFolder (Remove name r) here left) (λ asked. asked.calls) r

  pub counts_names : {F Y Z : Type 0} (old left : FileDrive F) (from : List ℕ) (most longest : ℕ) (r : Result (Vec (String Y) Z) DriveFault)
      → ListsKnown old from most longest r left → FaultsAfter r mid after → CountsNames r before after
  counts_names old left from most longest (Ok t) known h = h ∙ stood
  counts_names old left from most longest (Err Absent) known h = known
  counts_names old left from most longest (Err Failed) known h = subst (λ (n : ℕ). Rose n after) stood h
  counts_names old left from most longest (Err NoMemory) known h = h ∙ stood
