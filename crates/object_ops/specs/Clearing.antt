-- The files that are to be removed, and the call that removes one.
-- What comes after a commit: trash is taken, and its files are removed.
use Rattle.std.specs.Prelude.{◌≡◌, ℕ, zero, suc, ◌<◌, ◌^◌, ◌==◌, bit_and, if◌then◌else◌, List, [], ◌∷◌, ◌++◌, All, map, Result, ◌≢◌, ◌⊎◌, ◌+◌, ◌*◌, false, length, None, Ok, Err}
use Rattle.std.specs.Int.{IsBitSet}
use Rattle.std.specs.List.{flat_map}
use Rattle.stamp_id.specs.declared.version.VersionId.{VersionId}
use Rattle.drive_base.specs.Calls.{MadeCall, WasMade}
use Rattle.drive_base.specs.Trail.{Remove}
use Rattle.drive_base.specs.View.{DriveView, view_at}
use Rattle.drive_base.specs.declared.fault.DriveFault.{DriveFault}
use Rattle.drive_base.specs.declared.plan.SetPlan.{SetPlan}
use Rattle.object_ops.specs.declared.data_files.DataFile.{DataFile}
use Rattle.object_ops.specs.declared.data_files.DataFile.TheVariants.{Manifest, Shard}
use Rattle.object_ops.specs.declared.data_files.Removal.{Removal}
use Rattle.drive_base.specs.declared.drive.Drive.{Ghosts}
use Rattle.slot_core.specs.declared.slot.SlotFault.{SlotFault}
use Rattle.receipts.specs.Events.Shown.{NoneShown}
use Rattle.op_steps.specs.Claims.{Claim}
use Rattle.op_steps.specs.Moves.{TurnMoves}
use Rattle.op_steps.specs.Store.{SlotSeen}
use Rattle.op_steps.specs.declared.next.OpNext.{OpNext}
use Rattle.op_steps.specs.declared.next.OpNext.TheVariants.{Data, Done, Section}
use Rattle.object_ops.specs.DataNames.{name_by}
use Rattle.object_ops.specs.declared.clearing.Clearing.{Clearing}

-- a file of an id on a drive
pub record FileOn : Type 0 where
  pub id : VersionId
  pub kind : DataFile
  pub drive : ℕ

-- the files that removals take away
abbrev pub files_of : List Removal → List FileOn
files_of removals = map (λ (r : Removal). record { id = r.id; kind = r.kind; drive = r.drive }) removals

-- the drives of a set below a number that are in use, in the order of their indices
abbrev pub drives_below : SetPlan → ℕ → List ℕ
drives_below set zero = []
drives_below set (suc k) = drives_below set k ++ (if bit_and set.out (2 ^ k) == 0 then k ∷ [] else [])

-- this file of an id on each of these drives
abbrev pub of_drives : VersionId → DataFile → List ℕ → List FileOn
of_drives id kind drives = map (λ k. record { id = id; kind = kind; drive = k }) drives

-- the files of an id on the drives in use: the shards go first, and the manifests once these are gone, so that a manifest which is left leads to its shards
abbrev pub removals_of : SetPlan → VersionId → List FileOn
removals_of set id = of_drives id Shard (drives_below set set.drives) ++ of_drives id Manifest (drives_below set set.drives)

-- those of one id of a slot after another
abbrev pub removal_order : SetPlan → ℕ → List VersionId → List FileOn
removal_order set slot ids = flat_map (λ (id : VersionId). if id.slot == slot then removals_of set id else []) ids

-- a file is of an id of this slot, on a drive of the set that is in use
pub record IsDue (set : SetPlan) (slot : ℕ) (file : FileOn) : Type 0 where
  pub within : file.drive < set.drives
  pub in_use : IsBitSet set.out file.drive → ⊥
  pub of_slot : file.id.slot ≡ slot

abbrev pub AreDue : SetPlan → ℕ → List FileOn → Type 0
AreDue set slot files = All (IsDue set slot) files

-- the ids of files
abbrev pub ids_of : List FileOn → List VersionId
ids_of files = map (λ (file : FileOn). file.id) files

-- a call was made of a drive that removes the file of a name, whatever it answered
pub record RemoveCall (name : List ℕ) (made : MadeCall) (old new : DriveView) : Type 0 where
  pub answer : Result (Unit {0}) DriveFault
  pub is : made.call ≡ Remove name answer
  pub was_made : WasMade made old new

-- the files that are to be removed yet
abbrev pub files_left : Clearing → List FileOn
files_left c = files_of c.queue.items

-- nothing is left to do
pub record HasNone (c : Clearing) : Type 0 where
  pub takes : c.takes ≡ false
  pub queue : c.queue.items ≡ []

-- what comes next, and how much is left: 16 ids are taken at most, of which each drive has two files
abbrev pub next_of : ℕ → Clearing → OpNext
next_of slot c = if c.takes then Section slot else (if length (files_left c) == 0 then Done else Data)

abbrev pub left_of : SetPlan → Clearing → ℕ
left_of set c = (if c.takes then 32 * set.drives + 1 else 0) + length (files_left c)

-- what was taken from the trash
abbrev pub taken_of : Result (List VersionId) SlotFault → List VersionId
taken_of (Ok ids) = ids
taken_of (Err fault) = []

-- what is planned once trash was taken: the removals of it, or none
abbrev pub IsPlannedOf : SetPlan → ℕ → Result (List VersionId) SlotFault → List FileOn → Type 0
IsPlannedOf set slot answer files = (files ≡ []) ⊎ ((ids : List VersionId) × (answer ≡ Ok ids) × (files ≡ removal_order set slot ids))

-- an op that is to remove other ids, and holds all else as before
abbrev pub with_taken : Claim → List VersionId → Claim
with_taken claim ids = record { slot = claim.slot; flight = claim.flight; pin = claim.pin; stage = claim.stage; taken = ids; known = claim.known }

module _ {D : Type 0} (ghosts : Ghosts D) where
  -- trash was taken, by a section without a note: an op of the slot has the ids in hand whose files it is to remove
  abbrev pub TakesTrash : SlotSeen D → SlotSeen D → List FileOn → Type 0
  TakesTrash was now left = (claim : Claim) (disks : List DriveView) → claim.slot ≡ was.numbers.index
      → TurnMoves ghosts was now None NoneShown claim (with_taken claim (ids_of left)) disks disks

-- the call that removes the first file was made of its drive, whatever it answered, and no other drive was called
pub record RemovesOne (old new : List FileOn) (disks_old disks_new : List DriveView) : Type 0 where
  pub file : FileOn
  pub first : old ≡ file ∷ new
  pub within : file.drive < length disks_old
  pub made : MadeCall
  pub call : RemoveCall (name_by file.kind file.id) made (view_at disks_old file.drive) (view_at disks_new file.drive)
  pub long : length disks_new ≡ length disks_old
  pub others : (other : ℕ) → other ≢ file.drive → view_at disks_new other ≡ view_at disks_old other
