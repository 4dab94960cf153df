-- Two different byte strings with one SHA-256, of which a call of a log showed one.
use Rattle.std.specs.Prelude.{◌≡◌, ◌⊎◌, ℕ, List, length, take, drop}
use Rattle.body_print.specs.Clashes.{ClashesWith}
use Rattle.body_print.specs.Plans.{data_plan}
use Rattle.drive_base.specs.Calls.Seen.{Showed}
use Rattle.drive_base.specs.declared.plan.SetPlan.{SetPlan}
use Rattle.manifest_file.specs.Canonical.{IsCanonical}
use Rattle.manifest_file.specs.Print.{text_under}
use Rattle.manifest_file.specs.Spelling.{file_of}
use Rattle.manifest_file.specs.declared.manifest.Manifest.{Manifest}
use Rattle.receipts.specs.Events.{Log, Saw}

-- bytes are a piece of others
abbrev pub IsPieceOf : List ℕ → List ℕ → Type 0
IsPieceOf bytes others = (from : ℕ) × (bytes ≡ take (length bytes) (drop from others))

-- a call showed these bytes, alone or among more
pub record WasShown (bytes : List ℕ) (log : Log) : Type 0 where
  pub drive : ℕ
  pub name : List ℕ
  pub place : ℕ
  pub more : List ℕ
  pub called : Saw log drive (Showed name place more)
  pub piece : IsPieceOf bytes more

-- a call showed a manifest of which they are the text under the print
pub record IsShownText (bytes : List ℕ) (log : Log) : Type 0 where
  pub drive : ℕ
  pub name : List ℕ
  pub manifest : Manifest
  pub canonical : IsCanonical manifest
  pub called : Saw log drive (Showed name 0 (file_of manifest))
  pub text : bytes ≡ text_under manifest

-- bytes were met
abbrev pub WasMet : List ℕ → Log → Type 0
WasMet bytes log = WasShown bytes log ⊎ IsShownText bytes log

-- what was met and what is hashed for the print of a body are two byte strings with one SHA-256
pub record ClashIn (set : SetPlan) (body print : List ℕ) (log : Log) : Type 0 where
  pub read : List ℕ
  pub met : WasMet read log
  pub clash : ClashesWith (data_plan set print).drives (data_plan set print).parity body print read
