-- A drive that behaved: the calls of its ways, in some one order, lead its files from what they were to what they are.
use Rattle.std.specs.Prelude.{◌≡◌, ◌⊎◌, ℕ, true, List, [], ◌∷◌}
use Rattle.drive_base.specs.DriveModel.{FilesAfter}
use Rattle.drive_base.specs.Files.{Files}
use Rattle.drive_base.specs.Trail.{DriveCall}
use Rattle.drive_base.specs.View.{DriveView}

-- a drive that tells these files
abbrev pub telling : Files → DriveView
telling files = record { tells = true; files = files; count = 0; trail = [] }

-- the calls of a drive, the first one first, lead its files from those before to those after: each answer is what came of its call
abbrev pub Leads : List DriveCall → Files → Files → Type 0
Leads [] before after = after ≡ before
Leads (call ∷ calls) before after = (mid : Files) × FilesAfter call (telling before) (telling mid) × Leads calls mid after

-- calls of one way and those of all others, in one order, in which each keeps its own
abbrev pub AreMerged : List DriveCall → List DriveCall → List DriveCall → Type 0
AreMerged own others [] = (own ≡ []) × (others ≡ [])
AreMerged own others (call ∷ all) = ((rest : List DriveCall) × (own ≡ call ∷ rest) × AreMerged rest others all)
    ⊎ ((rest : List DriveCall) × (others ≡ call ∷ rest) × AreMerged own rest all)
