-- Why a drive gave no manifest, or no block.
use Rattle.std.specs.Prelude.{◌≡◌, ◌≢◌, ◌⊎◌, ◌≤◌, ◌*◌, ℕ, List, length, take, drop, Some}
use Rattle.std.specs.List.{sum_by}
use Rattle.sha2.specs.Sha256.{sha256}
use Rattle.field_reader.specs.Format.{fault_at}
use Rattle.seal_file.specs.Sealing.{sealed, IsDamage}
use Rattle.seal_file.specs.declared.damage.Damage.{Damage}
use Rattle.seal_file.specs.declared.damage.Damage.TheVariants.{Digest, Spelling}
use Rattle.manifest_file.specs.Canonical.{IsCanonical}
use Rattle.manifest_file.specs.Layout.{manifest}
use Rattle.manifest_file.specs.Print.{text_under}
use Rattle.manifest_file.specs.Spelling.{manifest_kind, spelling, file_of}
use Rattle.manifest_file.specs.declared.manifest.Manifest.{Manifest as ManifestRecord}
use Rattle.manifest_file.specs.declared.manifest.ManifestPart.{ManifestPart}

-- what is asked for: a set's drives and parity, a print, and how many bytes the body must reach to
pub record Wanted : Type 0 where
  pub drives : ℕ
  pub parity : ℕ
  pub print : List ℕ
  pub reach : ℕ

-- the length of a manifest's body
abbrev pub body_length : List ManifestPart → ℕ
body_length parts = sum_by (λ part. part.length) parts

-- a manifest is of the set's numbers, and its parts reach so far
pub record Fits (wanted : Wanted) (m : ManifestRecord) : Type 0 where
  pub drives : m.drives ≡ wanted.drives
  pub parity : m.parity ≡ wanted.parity
  pub reaches : wanted.reach ≤ body_length m.parts

-- a manifest serves: it has the print, and fits
pub record Serves (wanted : Wanted) (m : ManifestRecord) : Type 0 where
  pub print : wanted.print ≡ sha256 (text_under m)
  pub fits : Fits wanted m

-- what is wrong with a file that should be a manifest that serves: it isn't sealed, its body is no manifest's, or it is a
-- manifest whose print is another, or which is of other numbers or too short, which is told at its end
abbrev pub IsUnserved : Wanted → List ℕ → Damage → Type 0
IsUnserved wanted file damage =
    IsDamage manifest_kind file damage
    ⊎ ((body : List ℕ) × (place : ℕ) × (file ≡ sealed manifest_kind body) × (fault_at manifest body ≡ Some place) × (damage ≡ Spelling place))
    ⊎ ((m : ManifestRecord) × IsCanonical m × (file ≡ file_of m) × (wanted.print ≢ sha256 (text_under m)) × (damage ≡ Digest wanted.print (sha256 (text_under m))))
    ⊎ ((m : ManifestRecord) × IsCanonical m × (file ≡ file_of m) × (Fits wanted m → ⊥) × (damage ≡ Spelling (length (spelling m))))

-- the digest that a table has for a stripe
abbrev pub digest_in : List ℕ → ℕ → List ℕ
digest_in table i = take 32 (drop (32 * i) table)
