-- The calls that a drive made of a folder of the system, and what each answered.
use Rattle.std.specs.Prelude.{ℕ, Bool, List, Result}
use Rattle.drive_base.specs.declared.fault.DriveFault.{DriveFault}

-- a call on a path and its answer; a path and bytes are lists of bytes, and `AskMake` answers whether the folder was made
pub data FolderCall : Type 0 where
  AskSize : List ℕ → Result ℕ DriveFault → FolderCall
  AskRead : List ℕ → ℕ → List ℕ → Result ℕ DriveFault → List ℕ → FolderCall
  AskAppend : List ℕ → List ℕ → Result (Unit {0}) DriveFault → FolderCall
  AskSync : List ℕ → Result (Unit {0}) DriveFault → FolderCall
  AskRename : List ℕ → List ℕ → Result (Unit {0}) DriveFault → FolderCall
  AskRemove : List ℕ → Result (Unit {0}) DriveFault → FolderCall
  AskMake : List ℕ → Result Bool DriveFault → FolderCall
  AskClear : List ℕ → Result (Unit {0}) DriveFault → FolderCall
  AskList : List ℕ → Result (List (List ℕ)) DriveFault → FolderCall
