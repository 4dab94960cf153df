-- What the opening of a folder as a drive asks of it, and which paths the drive then has.
use Rattle.std.specs.Prelude.{◌≡◌, ◌≢◌, ◌⊎◌, ◌<◌, ℕ, Bool, List, [], ◌∷◌, ◌++◌, All, length, slice_index, codes, Result, Ok}
use Rattle.drive_base.specs.declared.fault.DriveFault.{DriveFault}
use Rattle.drive_file.specs.Asks.{AskedOnly}
use Rattle.drive_file.specs.Folder.{FolderCall, AskSync, AskMake, AskClear, AskList}
use Rattle.drive_file.specs.Paths.{path_below}

-- the path of a folder is the one that was given, without the slashes behind it
abbrev pub IsFolderGiven : List ℕ → List ℕ → Type 0
IsFolderGiven given folder =
    (slashes : List ℕ) × All (λ byte. byte ≡ 47) slashes × (given ≡ folder ++ slashes) × ((front : List ℕ) → folder ≢ front ++ codes "/")

-- the path of the folder of loose files in a drive's folder
abbrev pub loose_in : List ℕ → List ℕ
loose_in folder = path_below folder (codes "loose")

-- a folder has the last part of a path as its entry
abbrev pub IsParent : List ℕ → List ℕ → Type 0
IsParent path parent =
    (entry : List ℕ) × ((place : ℕ) → place < length entry → slice_index entry place ≢ 47)
    × (((parent ≢ []) × (path ≡ path_below parent entry))
    ⊎ (((parent ≡ codes "/") × (path ≡ codes "/" ++ entry)) ⊎ ((parent ≡ codes ".") × (path ≡ entry))))

-- a drive's folder and its loose one were made where they weren't there, and the folder in which each is an entry was synced behind that
abbrev pub MakesReady : List ℕ → List ℕ → List FolderCall → List FolderCall → Type 0
MakesReady folder loose old new =
    (parent : List ℕ) × (is_new : Bool) × (loose_is_new : Bool) × IsParent folder parent
    × (new ≡ AskSync folder (Ok tt) ∷ AskMake loose (Ok loose_is_new) ∷ AskSync parent (Ok tt) ∷ AskMake folder (Ok is_new) ∷ old)

-- the calls that do so
abbrev pub IsMakingReady : List ℕ → List ℕ → FolderCall → Type 0
IsMakingReady folder loose call =
    ((answer : Result Bool DriveFault) × (call ≡ AskMake folder answer))
    ⊎ (((answer : Result Bool DriveFault) × (call ≡ AskMake loose answer))
    ⊎ (((answer : Result (Unit {0}) DriveFault) × (call ≡ AskSync folder answer))
    ⊎ ((parent : List ℕ) × (answer : Result (Unit {0}) DriveFault) × IsParent folder parent × (call ≡ AskSync parent answer))))

-- these entries of a folder were removed, in their order, each answered Ok
abbrev pub clears : List ℕ → List (List ℕ) → List FolderCall → List FolderCall
clears loose [] calls = calls
clears loose (entry ∷ entries) calls = clears loose entries (AskClear (path_below loose entry) (Ok tt) ∷ calls)

-- what is in the folder of loose files was listed, and each of that was removed
abbrev pub Empties : List ℕ → List FolderCall → List FolderCall → Type 0
Empties loose old new = (entries : List (List ℕ)) × (new ≡ clears loose entries (AskList loose (Ok entries) ∷ old))

-- the calls that do so
abbrev pub IsEmptying : List ℕ → FolderCall → Type 0
IsEmptying loose call =
    ((answer : Result (List (List ℕ)) DriveFault) × (call ≡ AskList loose answer))
    ⊎ ((entry : List ℕ) × (answer : Result (Unit {0}) DriveFault) × (call ≡ AskClear (path_below loose entry) answer))

-- the calls that read what is in a drive's folder: to sync the folder of a group, and to list it
abbrev pub IsReading : List ℕ → FolderCall → Type 0
IsReading folder call =
    (group : List ℕ)
    × (((answer : Result (Unit {0}) DriveFault) × (call ≡ AskSync (path_below folder group) answer))
    ⊎ ((answer : Result (List (List ℕ)) DriveFault) × (call ≡ AskList (path_below folder group) answer)))

-- a folder was opened: it and its loose one were made, what was in the loose one was removed, and the names were read
pub record Opens (folder loose : List ℕ) (old new : List FolderCall) : Type 0 where
  pub made : List FolderCall
  pub emptied : List FolderCall
  pub ready : MakesReady folder loose old made
  pub empties : Empties loose made emptied
  pub reads : AskedOnly (IsReading folder) emptied new
