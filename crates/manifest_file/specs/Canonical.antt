-- Which manifests are canonical.
use Rattle.std.specs.Prelude.{◌≡◌, ℕ, ◌<◌, ◌≤◌, ◌^◌, List, length}
use Rattle.std.specs.List.{AllByRecursion}
use Rattle.field_reader.specs.Spelling.{IsBytes}
use Rattle.manifest_file.specs.declared.manifest.Manifest.{Manifest}
use Rattle.manifest_file.specs.declared.manifest.ManifestPart.{ManifestPart}
use Rattle.manifest_file.specs.Limits.{most_parts, most_part_bytes}

-- A name's length fits two bytes.
abbrev pub IsName : List ℕ → Type 0
IsName name = length name < 2 ^ 16

-- A root is a SHA-256: 32 bytes.
abbrev pub IsRoot : List ℕ → Type 0
IsRoot root = (length root ≡ 32) × IsBytes root

-- a part on so many drives: at most as long as S3 lets a PUT be, with a root for each drive
pub record IsCanonicalPart (drives : ℕ) (part : ManifestPart) : Type 0 where
  pub size : part.length ≤ most_part_bytes
  pub counted : length part.roots ≡ drives
  pub roots : AllByRecursion IsRoot part.roots

-- A manifest that is written: 1 to 10,000 parts in order, and numbers that fit their fields. There is no rule on the
-- number of drives and on the parity beside that.
pub record IsCanonical (manifest : Manifest) : Type 0 where
  pub name : IsName manifest.name
  pub drives : manifest.drives < 2 ^ 8
  pub parity : manifest.parity < 2 ^ 8
  pub some : 1 ≤ length manifest.parts
  pub few : length manifest.parts ≤ most_parts
  pub parts : AllByRecursion (IsCanonicalPart manifest.drives) manifest.parts
