-- Manifests as they are spelled: an id is its 16 bytes.
use Rattle.std.specs.Prelude.{ℕ, List, map}
use Rattle.stamp_id.specs.VersionId.{id_bytes}
use Rattle.manifest_file.specs.declared.manifest.Manifest.{Manifest}
use Rattle.manifest_file.specs.declared.manifest.ManifestPart.{ManifestPart}

-- a part as it is spelled
pub record PartRow : Type 0 where
  pub id : List ℕ
  pub size : ℕ
  pub roots : List (List ℕ)

-- a manifest as it is spelled
pub record ManifestRow : Type 0 where
  pub name : List ℕ
  pub drives : ℕ
  pub parity : ℕ
  pub parts : List PartRow

-- the row of a part, and of a manifest
abbrev pub part_row : ManifestPart → PartRow
part_row part = record { id = id_bytes part.id; size = part.length; roots = part.roots }

-- what is spelled of a manifest
abbrev pub row_of : Manifest → ManifestRow
row_of m = record { name = m.name; drives = m.drives; parity = m.parity; parts = map part_row m.parts }
