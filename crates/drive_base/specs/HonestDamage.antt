-- Honest damage: what a drive may show in place of what it keeps.
use Rattle.std.specs.Prelude.{◌≡◌, ◌≢◌, ◌⊎◌, ℕ, IsTrue, List, take, drop, Option, Some}
use Rattle.drive_base.specs.Files.{Files}
use Rattle.drive_base.specs.DriveModel.{DriveModel}
use Rattle.drive_base.specs.Trail.{DriveCall}
use Rattle.drive_base.specs.View.{DriveView}

-- what is kept under a name is shown, or bytes in its place that a rule calls damaged; the rule sees what is kept and the bytes
abbrev pub HonestDamage : (Option (List ℕ) → List ℕ → Type 0) → Option (List ℕ) → Option (List ℕ) → Type 0
HonestDamage IsDamaged kept shown = (shown ≡ kept) ⊎ ((bytes : List ℕ) × (shown ≡ Some bytes) × IsDamaged kept bytes)

-- the same of the file of a name on a drive
abbrev pub IsHonestAt : (Option (List ℕ) → List ℕ → Type 0) → List ℕ → Files → Type 0
IsHonestAt IsDamaged name files = HonestDamage IsDamaged (files.kept name) (files.shown name)

-- the piece of a file from a place on
abbrev pub piece_of : ℕ → ℕ → List ℕ → List ℕ
piece_of at long file = take long (drop at file)

-- the rule of files that are read in pieces, each compared with a digest: where a piece differs from the kept one, so does its digest
abbrev pub PiecesAreDamaged : (List ℕ → List ℕ) → (ℕ → ℕ → Type 0) → Option (List ℕ) → List ℕ → Type 0
PiecesAreDamaged digest IsPiece kept bytes = (file : List ℕ) → kept ≡ Some file → (at long : ℕ) → IsPiece at long
    → piece_of at long bytes ≢ piece_of at long file → digest (piece_of at long bytes) ≢ digest (piece_of at long file)

-- a change of a drive's files keeps damage of a name honest, for each rule: what is shown is what is kept, or both are as they were
abbrev pub KeepsHonesty : List ℕ → Files → Files → Type 0
KeepsHonesty name old new = (new.shown name ≡ new.kept name) ⊎ ((new.kept name ≡ old.kept name) × (new.shown name ≡ old.shown name))

-- each call of a drive that tells does so, under each name
abbrev pub CallsKeepHonesty : Type 0
CallsKeepHonesty = (name : List ℕ) (call : DriveCall) (old new : DriveView)
    → IsTrue old.tells → DriveModel call old new → KeepsHonesty name old.files new.files
