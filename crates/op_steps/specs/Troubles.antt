-- What trouble between two steps does to lanes and data drives, where the damage is honest.
use Rattle.std.specs.Prelude.{◌≡◌, ℕ, ◌<◌, IsTrue, List}
use Rattle.std.specs.Int.{IsBitSet}
use Rattle.drive_base.specs.declared.plan.SetPlan.{SetPlan}
use Rattle.drive_base.specs.View.{AtEach, DriveView, view_at}
use Rattle.op_steps.specs.Claims.{HasHonestManifests}

-- trouble befell a drive: it tells as before, and what it keeps and what is being written stays; what it shows may be another
pub record IsTroubled (old new : DriveView) : Type 0 where
  pub tells : new.tells ≡ old.tells
  pub kept : IsTrue old.tells → new.files.kept ≡ old.files.kept
  pub loose : IsTrue old.tells → new.files.loose ≡ old.files.loose

-- trouble befell data drives of a set, and damage of their manifests is honest
pub record DisksTroubled (set : SetPlan) (old new : List DriveView) : Type 0 where
  pub each : AtEach (λ k. IsTroubled) old new
  pub honest : (k : ℕ) → k < set.drives → (IsBitSet set.out k → ⊥) → HasHonestManifests (view_at new k).files
