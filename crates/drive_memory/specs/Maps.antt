-- The maps of a drive as functions from the bytes of a name.
use Rattle.std.specs.Prelude.{ℕ, List, String}
use Rattle.std.specs.Option.{option_map}
use Rattle.std.specs.BTreeMap.{BTreeMap, get_by_text}
use Rattle.drive_base.specs.Files.{LooseFile, Named}
use Rattle.drive_memory.specs.declared.loose.Loose.{Loose}
use Rattle.drive_memory.specs.declared.placed.PlacedFile.{PlacedFile}

-- a loose file as plain data
abbrev pub loose_file : Loose → LooseFile
loose_file file = record { bytes = file.bytes.items; synced = file.synced }

-- the files that are being written
abbrev pub loose_files : {Y : Type 0} → BTreeMap (String Y) Loose → Named LooseFile
loose_files map name = option_map loose_file (get_by_text map name)

-- the bytes that were put in place
abbrev pub kept_bytes : PlacedFile → List ℕ
kept_bytes file = file.kept.value.items

-- the bytes that a read gives
abbrev pub shown_bytes : PlacedFile → List ℕ
shown_bytes file = file.shown.items

-- the files that are in place, as they were put there
abbrev pub kept_files : {Y : Type 0} → BTreeMap (String Y) PlacedFile → Named (List ℕ)
kept_files map name = option_map kept_bytes (get_by_text map name)

-- the files that are in place, as reads give them
abbrev pub shown_files : {Y : Type 0} → BTreeMap (String Y) PlacedFile → Named (List ℕ)
shown_files map name = option_map shown_bytes (get_by_text map name)
