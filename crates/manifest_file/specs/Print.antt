-- The print of a body cut into parts.
use Rattle.std.specs.Prelude.{◌≡◌, ℕ, List, [], ◌∷◌, ◌++◌, length, map}
use Rattle.std.specs.List.{flat_map}
use Rattle.std.specs.Int.{w8, w16, w64}
use Rattle.field_reader.specs.Spelling.{IsBytes, number_bytes, joined}
use Rattle.sha2.specs.Sha256.{sha256}
use Rattle.manifest_file.specs.declared.manifest.Manifest.{Manifest}
use Rattle.manifest_file.specs.declared.manifest.ManifestPart.{ManifestPart}
use Rattle.manifest_file.specs.Canonical.{IsCanonical}
use Rattle.manifest_file.specs.Spelling.{roots_bytes}

-- a part as the print sees it: its length, and its roots
abbrev pub Cut : Type 0
Cut = ℕ × List (List ℕ)

-- the cut of a manifest's part
abbrev pub cut_of : ManifestPart → Cut
cut_of part = (part.length, part.roots)

-- the length and the roots
abbrev pub cut_bytes : Cut → List ℕ
cut_bytes cut = number_bytes w64 cut.0 ++ roots_bytes cut.1

-- the text under a print: the drives, the parity, the number of parts, and the parts
abbrev pub print_text : ℕ → ℕ → List Cut → List ℕ
print_text drives parity cuts = joined (number_bytes w8 drives ∷ number_bytes w8 parity ∷ number_bytes w16 (length cuts) ∷ flat_map cut_bytes cuts ∷ [])

-- the print of parts on so many drives with so much parity
abbrev pub print_of_parts : ℕ → ℕ → List Cut → List ℕ
print_of_parts drives parity cuts = sha256 (print_text drives parity cuts)

-- the text under the print of a manifest's body
abbrev pub text_under : Manifest → List ℕ
text_under m = print_text m.drives m.parity (map cut_of m.parts)

-- Canonical manifests whose prints have one text agree on the drives, the parity, and the parts' lengths and roots.
abbrev pub TextsTellParts : Type 0
TextsTellParts = (a b : Manifest) → IsCanonical a → IsCanonical b → text_under a ≡ text_under b
    → (a.drives ≡ b.drives) × (a.parity ≡ b.parity) × (map cut_of a.parts ≡ map cut_of b.parts)

-- The text under the print of a canonical manifest is made of bytes.
abbrev pub TextsAreBytes : Type 0
TextsAreBytes = (m : Manifest) → IsCanonical m → IsBytes (text_under m)
