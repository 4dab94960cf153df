-- What a reader of an id answers of bytes.
use Rattle.std.specs.Prelude.{◌≡◌, ℕ, List, Bool, true, false, Result, Ok, Err}
use Rattle.field_reader.specs.declared.fault.Misspelled.{Misspelled}
use Rattle.stamp_id.specs.VersionId.{id_bytes}
use Rattle.stamp_id.specs.declared.version.VersionId.{VersionId}

-- Bytes that keep their rule are those of the id. Else the fault is at their start.
abbrev pub ReadsId : Bool → List ℕ → ℕ → Result VersionId Misspelled → Type 0
ReadsId kept bytes start (Ok id) = (kept ≡ true) × (bytes ≡ id_bytes id)
ReadsId kept bytes start (Err misspelled) = (kept ≡ false) × (misspelled.0 ≡ start)
