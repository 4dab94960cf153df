-- The print of a body: a function of its bytes and of how they are cut into parts.
use Rattle.std.specs.Prelude.{◌≡◌, ℕ, ◌-◌, ◌<◌, ◌≤◌, List, [], All, length, slice_index_or}
use Rattle.std.specs.List.{concat, flat_map}
use Rattle.sha2.specs.Sha256.{sha256}
use Rattle.manifest_file.specs.Canonical.{IsCanonical}
use Rattle.manifest_file.specs.Print.{Cut, cut_of, print_text}
use Rattle.manifest_file.specs.declared.manifest.Manifest.{Manifest}
use Rattle.manifest_file.specs.declared.manifest.ManifestPart.{ManifestPart}
use Rattle.body_print.specs.Shards.{HasRoots}
use Rattle.manifest_file.specs.Limits.{most_parts, most_part_bytes}

-- the cut of a part: its length, and the roots of its shards over n drives with p of parity
abbrev pub IsCutOf : ℕ → ℕ → List ℕ → Cut → Type 0
IsCutOf n p part cut = (cut.0 ≡ length part) × HasRoots n (n - p) part cut.1

-- the text under the print of a body that is cut into parts
pub record IsPrintText (n p : ℕ) (parts : List (List ℕ)) (text : List ℕ) : Type 0 where
  pub cuts : List Cut
  pub count : length cuts ≡ length parts
  pub each : (i : ℕ) → i < length parts → IsCutOf n p (slice_index_or parts i []) (slice_index_or cuts i (0, []))
  pub spells : text ≡ print_text n p cuts

-- a body is cut so that a manifest can tell it: into 1 to 10,000 parts of at most 5 GiB
pub record IsCut (parts : List (List ℕ)) : Type 0 where
  pub some : 0 < length parts
  pub few : length parts ≤ most_parts
  pub fits : All (λ part. length part ≤ most_part_bytes) parts

-- a body has a print: that of the body cut into some parts
pub record HasPrint (n p : ℕ) (body print : List ℕ) : Type 0 where
  pub parts : List (List ℕ)
  pub cut : IsCut parts
  pub text : List ℕ
  pub joins : body ≡ concat parts
  pub under : IsPrintText n p parts text
  pub hashed : print ≡ sha256 text

-- a body is cut as parts of a manifest say: into as many byte strings, of their lengths and with their roots
pub record IsCutAs (n p : ℕ) (parts : List ManifestPart) (cut : List (List ℕ)) : Type 0 where
  pub count : length cut ≡ length parts
  pub each : (i : ℕ) (default : ManifestPart) → i < length parts → IsCutOf n p (slice_index_or cut i []) (cut_of (slice_index_or parts i default))

-- a manifest over n drives with p of parity
pub record IsOver (n p : ℕ) (m : Manifest) : Type 0 where
  pub canonical : IsCanonical m
  pub drives : m.drives ≡ n
  pub parity : m.parity ≡ p

-- the same, of one part
pub record IsOfOnePart (n p : ℕ) (m : Manifest) : Type 0 where
  pub over : IsOver n p m
  pub one : length m.parts ≡ 1

-- a manifest has the parts of others, each of one part, in their order
pub record IsJoined (n p : ℕ) (ones : List Manifest) (m : Manifest) : Type 0 where
  pub over : IsOver n p m
  pub each : All (IsOfOnePart n p) ones
  pub parts : m.parts ≡ flat_map (λ (one : Manifest). one.parts) ones
