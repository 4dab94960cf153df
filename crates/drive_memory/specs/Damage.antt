-- What damage and a stop do to the files of a drive.
use Rattle.std.specs.Prelude.{◌≡◌, ◌⊎◌, ℕ, ◌<◌, ◌≤◌, Bool, true, false, List, length, slice_index, slice_set, Option, Some, None, bit_xor, if◌then◌else◌}
use Rattle.drive_base.specs.Files.{Files, LooseFile, with_name}

-- the bytes with each bit of one byte turned round
abbrev pub hurt_bytes : List ℕ → ℕ → List ℕ
hurt_bytes bytes place = slice_set bytes place (bit_xor (slice_index bytes place) 255)

-- the files with other bytes shown under a name
abbrev pub with_shown : Files → List ℕ → List ℕ → Files
with_shown files name bytes = record { kept = files.kept; shown = with_name files.shown name (Some bytes); loose = files.loose }

-- damage turns one shown byte round where it is there, and else changes nothing
abbrev pub HurtLeaves : Files → List ℕ → ℕ → Bool → Files → Type 0
HurtLeaves old name place true new = (bytes : List ℕ) × (old.shown name ≡ Some bytes) × (place < length bytes) × (new ≡ with_shown old name (hurt_bytes bytes place))
HurtLeaves old name place false new = ((old.shown name ≡ None) ⊎ ((bytes : List ℕ) × (old.shown name ≡ Some bytes) × (length bytes ≤ place))) × (new ≡ old)

-- a loose file that outlasts a stop
abbrev pub synced_only : Option LooseFile → Option LooseFile
synced_only None = None
synced_only (Some file) = if file.synced then Some file else None

-- the files after a stop: loose files that weren't synced are gone
abbrev pub after_stop : Files → Files
after_stop files = record { kept = files.kept; shown = files.shown; loose = λ name. synced_only (files.loose name) }
