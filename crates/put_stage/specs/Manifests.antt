-- The bytes of all parts of a body, and its print.
use Rattle.std.specs.Prelude.{ℕ, List, map, sum_by}
use Rattle.manifest_file.specs.Print.{cut_of, print_of_parts}
use Rattle.manifest_file.specs.declared.manifest.Manifest.{Manifest}
use Rattle.manifest_file.specs.declared.manifest.ManifestPart.{ManifestPart}

-- the bytes of a part
abbrev pub part_size : ManifestPart → ℕ
part_size part = part.length

-- the bytes of all parts of a body
abbrev pub total_size : Manifest → ℕ
total_size manifest = sum_by part_size manifest.parts

-- the print of the body of a manifest
abbrev pub print_under : Manifest → List ℕ
print_under manifest = print_of_parts manifest.drives manifest.parity (map cut_of manifest.parts)
