-- The bytes that a reader gave, and what they are by its account.
use Rattle.std.specs.Prelude.{◌≡◌, ◌⊎◌, ℕ, List, length, take, drop}
use Rattle.stamp_id.specs.declared.version.VersionId.{VersionId}
use Rattle.drive_base.specs.Calls.{Showed, Sized}
use Rattle.manifest_file.specs.Canonical.{IsCanonical}
use Rattle.manifest_file.specs.Print.{text_under}
use Rattle.manifest_file.specs.Spelling.{file_of}
use Rattle.manifest_file.specs.declared.manifest.Manifest.{Manifest}
use Rattle.body_print.specs.Clashes.{ClashesWith}
use Rattle.body_print.specs.Names.{manifest_name}
use Rattle.body_print.specs.Prints.{HasPrint}
use Rattle.get_read.specs.Account.{Account, IsPieceOf, Stands}
use Rattle.get_read.specs.Causes.{Serves, Wanted}

-- bytes were met: they are a piece of what a call showed, or the text under the print of a manifest that a call showed
abbrev pub MetIn : Account → List ℕ → Type 0
MetIn account bytes =
    ((k : ℕ) × (name : List ℕ) × (at : ℕ) × (more : List ℕ) × Stands account k (Showed name at more) × IsPieceOf bytes more)
    ⊎ ((k : ℕ) × (name : List ℕ) × (m : Manifest) × IsCanonical m × Stands account k (Showed name 0 (file_of m)) × (bytes ≡ text_under m))

-- what was met and what is hashed for the print of a body are two byte strings with one SHA-256
pub record ClashIn (n p : ℕ) (body print : List ℕ) (account : Account) : Type 0 where
  pub read : List ℕ
  pub met : MetIn account read
  pub clash : ClashesWith n p body print read

-- bytes are a prefix of the span, from a place to a place, of every body with the print, or there is a clash
abbrev pub AreOfSpanIn : ℕ → ℕ → List ℕ → ℕ → ℕ → List ℕ → Account → Type 0
AreOfSpanIn n p print from to given account = (body : List ℕ) → HasPrint n p body print
    → (given ≡ take (length given) (drop from (take to body))) ⊎ ClashIn n p body print account

-- a manifest that serves stood in the account: a drive showed its file, as long as that drive told before, under the manifest's name
pub record IsFoundIn (wanted : Wanted) (id : VersionId) (m : Manifest) (account : Account) : Type 0 where
  pub canonical : IsCanonical m
  pub serves : Serves wanted m
  pub drive : ℕ
  pub sized : Stands account drive (Sized (manifest_name id) (length (file_of m)))
  pub showed : Stands account drive (Showed (manifest_name id) 0 (file_of m))
