-- The table of manifests, and what follows from it.
use Rattle.std.specs.Prelude.{◌≡◌, ℕ, ◌≤◌, length}
use Rattle.sealed_record.specs.Laws.{FileIsInjective as TableFileIsInjective}
use Rattle.sealed_record.specs.Table.{Table}
use Rattle.manifest_file.specs.declared.manifest.Manifest.{Manifest}
use Rattle.manifest_file.specs.Canonical.{IsCanonical}
use Rattle.manifest_file.specs.Layout.{manifest}
use Rattle.manifest_file.specs.Rows.{ManifestRow, row_of}
use Rattle.manifest_file.specs.Spelling.{row_bytes, manifest_kind, file_of}

-- the table of manifests
abbrev pub manifest_table : Table Manifest ManifestRow
manifest_table = record { row = row_of; format = manifest; bytes = row_bytes; Canonical = IsCanonical }

-- Two canonical manifests with one file are the same.
abbrev pub FileIsInjective : Type 0
FileIsInjective = TableFileIsInjective manifest_kind manifest_table

-- No canonical manifest for at most 16 drives has a file of more bytes than these.
abbrev pub ManifestsAreNoLonger : ℕ → Type 0
ManifestsAreNoLonger longest = (m : Manifest) → IsCanonical m → m.drives ≤ 16 → length (file_of m) ≤ longest

-- Some canonical manifest for at most 16 drives has a file of just so many bytes.
abbrev pub SomeManifestIsAsLong : ℕ → Type 0
SomeManifestIsAsLong longest = (m : Manifest) × IsCanonical m × (m.drives ≤ 16) × (length (file_of m) ≡ longest)
