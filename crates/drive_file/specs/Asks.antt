-- Which calls of its folder each call of a drive over a folder makes, and that its answer is theirs.
use Rattle.std.specs.Prelude.{◌≡◌, ◌≢◌, ◌⊎◌, ◌≤◌, ℕ, Bool, false, true, List, [], ◌∷◌, ◌++◌, All, drop, length, slice_index_or, Result, Ok, Err}
use Rattle.std.specs.List.{Contains}
use Rattle.drive_base.specs.declared.fault.DriveFault.{DriveFault}
use Rattle.drive_base.specs.declared.fault.DriveFault.TheVariants.{Absent, Failed, NoMemory}
use Rattle.drive_base.specs.Trail.{DriveCall, Size, Read, Append, Sync, Rename, Discard, Remove, Names}
use Rattle.drive_file.specs.Folder.{FolderCall, AskSize, AskRead, AskAppend, AskSync, AskRename, AskRemove, AskMake}
use Rattle.drive_file.specs.Paths.{path_in, inner_folders}

-- a drive over a folder: the paths of its folder and of that of its loose files, whether it is lost, and the calls that it made, the newest first
pub record FolderView : Type 0 where
  pub folder : List ℕ
  pub loose : List ℕ
  pub lost : Bool
  pub calls : List FolderCall

-- the path of a file in place
abbrev pub placed : FolderView → List ℕ → List ℕ
placed here name = path_in here.folder name

-- the path of a loose file
abbrev pub loosely : FolderView → List ℕ → List ℕ
loosely here loose = path_in here.loose loose

-- folders that were made where they weren't there, in their order, each answered Ok: `made` says of each whether it was made
abbrev pub makes : List (List ℕ) → List Bool → List FolderCall → List FolderCall
makes [] made calls = calls
makes (folder ∷ folders) [] calls = calls
makes (folder ∷ folders) (is_new ∷ made) calls = makes folders made (AskMake folder (Ok is_new) ∷ calls)

-- a call was made on each path, in their order
abbrev pub each_asked : (List ℕ → FolderCall) → List (List ℕ) → List FolderCall → List FolderCall
each_asked call [] calls = calls
each_asked call (path ∷ paths) calls = each_asked call paths (call path ∷ calls)

-- folders that were synced, in their order, each answered Ok
abbrev pub syncs : List (List ℕ) → List FolderCall → List FolderCall
syncs folders calls = each_asked (λ folder. AskSync folder (Ok tt)) folders calls

-- the folders were made where they weren't there, and each that is new stands at the place `first` or behind it
pub record MadeAll (folders : List (List ℕ)) (first : ℕ) (old new : List FolderCall) : Type 0 where
  pub made : List Bool
  pub long : length made ≡ length folders
  pub within : first ≤ length folders
  pub outermost : (place : ℕ) → slice_index_or made place false ≡ true → first ≤ place
  pub calls : new ≡ makes folders made old

-- each call since then is one of these
pub record AskedOnly (Is : FolderCall → Type 0) (old new : List FolderCall) : Type 0 where
  pub more : List FolderCall
  pub each : All Is more
  pub grown : new ≡ more ++ old

-- the calls that make one of these folders
abbrev pub IsMaking : List (List ℕ) → FolderCall → Type 0
IsMaking folders call = (path : List ℕ) × (answer : Result Bool DriveFault) × Contains folders path × (call ≡ AskMake path answer)

-- the calls that sync one of these folders
abbrev pub IsSyncing : List (List ℕ) → FolderCall → Type 0
IsSyncing folders call = (path : List ℕ) × (answer : Result (Unit {0}) DriveFault) × Contains folders path × (call ≡ AskSync path answer)

-- bytes were appended to a file, and before that the folders of its path were made where they weren't there, all answered Ok
pub record Appends (inner : List (List ℕ)) (path bytes : List ℕ) (old new : List FolderCall) : Type 0 where
  pub first : ℕ
  pub making : List FolderCall
  pub made : MadeAll inner first old making
  pub calls : new ≡ AskAppend path bytes (Ok tt) ∷ making

-- what a refused append may have asked: to make the folders of the path, and the append itself
abbrev pub IsOfAppend : List (List ℕ) → List ℕ → List ℕ → FolderCall → Type 0
IsOfAppend inner path bytes call = IsMaking inner call ⊎ ((answer : Result (Unit {0}) DriveFault) × (call ≡ AskAppend path bytes answer))

-- the calls that put a file in place: to make the folders of its path, to move it, and to sync the folders in which these are
abbrev pub IsPlacing : List (List ℕ) → List ℕ → List ℕ → FolderCall → Type 0
IsPlacing folders from to call =
    IsMaking folders call ⊎ (((answer : Result (Unit {0}) DriveFault) × (call ≡ AskRename from to answer)) ⊎ IsSyncing folders call)

-- a file was moved to its place, and behind that each folder which has a new entry was synced, all answered Ok: the folder of the innermost, and each in
-- which one was made
pub record Places (top : List ℕ) (inner : List (List ℕ)) (from to : List ℕ) (old new : List FolderCall) : Type 0 where
  pub first : ℕ
  pub moving : List FolderCall
  pub made : MadeAll inner first old moving
  pub calls : new ≡ syncs (drop first (top ∷ inner)) (AskRename from to (Ok tt) ∷ moving)

-- the loose file was there, and was moved to its place
pub record Renames (here : FolderView) (loose name : List ℕ) (new : List FolderCall) : Type 0 where
  pub there : ℕ
  pub placing : Places here.folder (inner_folders here.folder name) (loosely here loose) (placed here name)
      (AskSize (loosely here loose) (Ok there) ∷ here.calls) new

-- a drive that goes on asked nothing; one that was asked to put a file in place, and didn't, is lost, since nobody knows what is there
abbrev pub PlacesNot : List (List ℕ) → List ℕ → List ℕ → Bool → List FolderCall → List FolderCall → Type 0
PlacesNot folders from to lost old new = (new ≡ old) ⊎ ((lost ≡ true) × AskedOnly (IsPlacing folders from to) old new)

-- the loose file was there, and was not put in place
pub record RenamesNot (here : FolderView) (loose name : List ℕ) (left : FolderView) : Type 0 where
  pub there : ℕ
  pub placing : PlacesNot (here.folder ∷ inner_folders here.folder name) (loosely here loose) (placed here name) left.lost
      (AskSize (loosely here loose) (Ok there) ∷ here.calls) left.calls

-- one call that was refused, or none for want of memory
abbrev pub Refused : (DriveFault → FolderCall) → List FolderCall → List FolderCall → Type 0
Refused call old new = ((fault : DriveFault) × (new ≡ call fault ∷ old)) ⊎ (new ≡ old)

-- one call that was refused, and not since nothing was found, or none for want of memory
abbrev pub Breaks : (DriveFault → FolderCall) → List FolderCall → List FolderCall → Type 0
Breaks call old new = ((fault : DriveFault) × (fault ≢ Absent) × (new ≡ call fault ∷ old)) ⊎ (new ≡ old)

-- one call with this answer, or none for want of memory
abbrev pub AsksOne : {T : Type 0} → (Result T DriveFault → FolderCall) → Result T DriveFault → List FolderCall → List FolderCall → Type 0
AsksOne call (Ok value) old new = new ≡ call (Ok value) ∷ old
AsksOne call (Err fault) old new = (new ≡ call (Err fault) ∷ old) ⊎ ((fault ≡ NoMemory) × (new ≡ old))

-- a file was asked to be removed, and isn't there any more
abbrev pub Forgets : List ℕ → List FolderCall → List FolderCall → Type 0
Forgets path old new = (new ≡ AskRemove path (Ok tt) ∷ old) ⊎ (new ≡ AskRemove path (Err Absent) ∷ old)

-- a file was asked to be removed, or not for want of memory
abbrev pub ForgetsNot : List ℕ → List FolderCall → List FolderCall → Type 0
ForgetsNot path old new = Refused (λ fault. AskRemove path (Err fault)) old new

-- a file wasn't synced. Since the system tells a failure once, so that another sync of it could succeed although its bytes aren't on the disk, it was removed
-- behind that, or the drive is lost
pub record SyncsNot (path : List ℕ) (old : List FolderCall) (left : FolderView) : Type 0 where
  pub tried : List FolderCall
  pub breaks : Breaks (λ fault. AskSync path (Err fault)) old tried
  pub file : Forgets path tried left.calls ⊎ ((left.lost ≡ true) × ForgetsNot path tried left.calls)

-- what a call of the drive asked of its folder, by its answer
abbrev pub Asks : FolderView → DriveCall → FolderView → Type 0
Asks here (Size name (Ok size)) left = left.calls ≡ AskSize (placed here name) (Ok size) ∷ here.calls
Asks here (Size name (Err Absent)) left = left.calls ≡ here.calls
Asks here (Size name (Err Failed)) left = Refused (λ fault. AskSize (placed here name) (Err fault)) here.calls left.calls
Asks here (Size name (Err NoMemory)) left = ⊥
Asks here (Read name at before (Ok count) after) left = left.calls ≡ AskRead (placed here name) at before (Ok count) after ∷ here.calls
Asks here (Read name at before (Err Absent) after) left = (after ≡ before) × (left.calls ≡ here.calls)
Asks here (Read name at before (Err Failed) after) left =
    Refused (λ fault. AskRead (placed here name) at before (Err fault) after) here.calls left.calls
Asks here (Read name at before (Err NoMemory) after) left = ⊥
Asks here (Append loose bytes (Ok t)) left = Appends (inner_folders here.loose loose) (loosely here loose) bytes here.calls left.calls
Asks here (Append loose bytes (Err Absent)) left = ⊥
Asks here (Append loose bytes (Err Failed)) left =
    AskedOnly (IsOfAppend (inner_folders here.loose loose) (loosely here loose) bytes) here.calls left.calls
Asks here (Append loose bytes (Err NoMemory)) left = ⊥
Asks here (Sync loose (Ok t)) left = left.calls ≡ AskSync (loosely here loose) (Ok tt) ∷ here.calls
Asks here (Sync loose (Err Absent)) left =
    ((loose ≡ []) × (left.calls ≡ here.calls)) ⊎ (left.calls ≡ AskSync (loosely here loose) (Err Absent) ∷ here.calls)
Asks here (Sync loose (Err Failed)) left = SyncsNot (loosely here loose) here.calls left
Asks here (Sync loose (Err NoMemory)) left = ⊥
Asks here (Rename loose name (Ok t)) left = Renames here loose name left.calls
Asks here (Rename loose name (Err Absent)) left =
    ((loose ≡ []) × (left.calls ≡ here.calls)) ⊎ (left.calls ≡ AskSize (loosely here loose) (Err Absent) ∷ here.calls)
Asks here (Rename loose name (Err Failed)) left =
    Breaks (λ fault. AskSize (loosely here loose) (Err fault)) here.calls left.calls ⊎ RenamesNot here loose name left
Asks here (Rename loose name (Err NoMemory)) left = ⊥
Asks here (Discard loose (Ok t)) left = left.calls ≡ AskRemove (loosely here loose) (Ok tt) ∷ here.calls
Asks here (Discard loose (Err Absent)) left =
    ((loose ≡ []) × (left.calls ≡ here.calls)) ⊎ (left.calls ≡ AskRemove (loosely here loose) (Err Absent) ∷ here.calls)
Asks here (Discard loose (Err Failed)) left = Breaks (λ fault. AskRemove (loosely here loose) (Err fault)) here.calls left.calls
Asks here (Discard loose (Err NoMemory)) left = ⊥
Asks here (Remove name (Ok t)) left = left.calls ≡ AskRemove (placed here name) (Ok tt) ∷ here.calls
Asks here (Remove name (Err Absent)) left = left.calls ≡ here.calls
Asks here (Remove name (Err Failed)) left = Refused (λ fault. AskRemove (placed here name) (Err fault)) here.calls left.calls
Asks here (Remove name (Err NoMemory)) left = ⊥
Asks here (Names from most answer) left = left.calls ≡ here.calls

-- a call of the drive over its folder: it leaves the paths, a lost drive asks nothing and stays lost, and what another asked is the call's
pub record AsksFolder (call : DriveCall) (before after : FolderView) : Type 0 where
  pub folder : after.folder ≡ before.folder
  pub loose : after.loose ≡ before.loose
  pub lost : before.lost ≡ true → after ≡ before
  pub calls : Asks before call after
