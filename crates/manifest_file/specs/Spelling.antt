-- The one spelling of each manifest. Numbers are big-endian.
use Rattle.std.specs.Prelude.{ℕ, List, [], ◌∷◌, length, codes}
use Rattle.std.specs.List.{flat_map}
use Rattle.std.specs.Int.{w8, w16, w64}
use Rattle.field_reader.specs.Spelling.{number_bytes, joined}
use Rattle.seal_file.specs.Sealing.{sealed}
use Rattle.sealed_record.specs.Fields.{counted_bytes}
use Rattle.manifest_file.specs.declared.manifest.Manifest.{Manifest}
use Rattle.manifest_file.specs.Rows.{PartRow, ManifestRow, row_of}

-- a name: its length, and its bytes
abbrev pub name_bytes : List ℕ → List ℕ
name_bytes name = counted_bytes w16 name

-- roots, one after the other
abbrev pub roots_bytes : List (List ℕ) → List ℕ
roots_bytes roots = flat_map (λ root. root) roots

-- the fields of a part
abbrev pub part_bytes : PartRow → List ℕ
part_bytes part = joined (part.id ∷ number_bytes w64 part.size ∷ roots_bytes part.roots ∷ [])

-- the format number 1, the name, the drives, the parity, the number of parts, and the parts
abbrev pub row_bytes : ManifestRow → List ℕ
row_bytes m = joined (
    number_bytes w8 1 ∷ name_bytes m.name ∷ number_bytes w8 m.drives ∷ number_bytes w8 m.parity ∷ number_bytes w16 (length m.parts) ∷ flat_map part_bytes m.parts ∷ [])

-- the spelling of a manifest
abbrev pub spelling : Manifest → List ℕ
spelling m = row_bytes (row_of m)

-- the kind of a manifest's file
abbrev pub manifest_kind : List ℕ
manifest_kind = codes "OMAN"

-- the file of a manifest
abbrev pub file_of : Manifest → List ℕ
file_of m = sealed manifest_kind (spelling m)
