-- What each drive holds that took a body, or a manifest alone.
use Rattle.std.specs.Prelude.{◌≡◌, ℕ, List, [], ◌∷◌}
use Rattle.stamp_id.specs.declared.version.VersionId.{VersionId}
use Rattle.drive_base.specs.Files.{Named}
use Rattle.drive_base.specs.Plan.{data_drives}
use Rattle.drive_base.specs.declared.plan.SetPlan.{SetPlan}
use Rattle.manifest_file.specs.declared.manifest.ManifestPart.{ManifestPart}
use Rattle.body_print.specs.Holders.{HoldsManifest, HoldsPart}

-- the kept files of drive k hold a body that is one part, with this print: the manifest, and its one part under the same id
pub record HoldsBody (set : SetPlan) (id : VersionId) (print : List ℕ) (k : ℕ) (kept : Named (List ℕ)) : Type 0 where
  pub whole : HoldsManifest id print kept
  pub part : ManifestPart
  pub alone : whole.manifest.parts ≡ part ∷ []
  pub own : part.id ≡ id
  pub shard : HoldsPart set.drives (data_drives set.drives set.parity) part k kept
