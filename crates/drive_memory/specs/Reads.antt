-- What a read of a drive's contents gives.
use Rattle.std.specs.Prelude.{◌≡◌, ℕ, List, Option, Some, None}
use Rattle.drive_base.specs.Files.{Named}
use Rattle.drive_base.specs.Leaves.{ReadBytes}

-- a read fills the front of a buffer with the shown bytes from a place on, where the name is there
abbrev pub ReadShows : Named (List ℕ) → List ℕ → ℕ → List ℕ → Option ℕ → List ℕ → Type 0
ReadShows shown name at before (Some n) after = (bytes : List ℕ) × (shown name ≡ Some bytes) × ReadBytes bytes at before n after
ReadShows shown name at before None after = shown name ≡ None
