-- What a drive holds.
use Rattle.std.specs.Prelude.{ℕ, Bool, List, Option, None}
use Rattle.std.specs.Str.{bytes_eq}
use Rattle.std.specs.Map.{update}

-- a file that is being written: its bytes, and whether they are synced
pub record LooseFile : Type 0 where
  pub bytes : List ℕ
  pub synced : Bool

-- files by the bytes of their names
abbrev pub Named : Type 0 → Type 0
Named T = List ℕ → Option T

-- the files of a drive: what it keeps, what it shows, and what is being written
pub record Files : Type 0 where
  -- the bytes that were last put in place under each name
  pub kept : Named (List ℕ)
  -- the bytes that a read of each name gives now
  pub shown : Named (List ℕ)
  -- the files that are being written, by their loose names
  pub loose : Named LooseFile

-- a drive without any file
abbrev pub no_files : Files
no_files = record { kept = λ _. None; shown = λ _. None; loose = λ _. None }

-- the named files, with w under this name
abbrev pub with_name : {T : Type 0} → Named T → List ℕ → Option T → Named T
with_name named name w = update bytes_eq named name w

-- the files with w under a loose name
abbrev pub with_loose : Files → List ℕ → Option LooseFile → Files
with_loose files name w = record { kept = files.kept; shown = files.shown; loose = with_name files.loose name w }

-- the files with w in place under a name, kept and shown
abbrev pub with_placed : Files → List ℕ → Option (List ℕ) → Files
with_placed files name w = record { kept = with_name files.kept name w; shown = with_name files.shown name w; loose = files.loose }
