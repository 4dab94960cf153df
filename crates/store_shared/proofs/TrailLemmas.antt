-- The drive calls of a log are those that were made.
use Rattle.std.proofs.Common.{ℕ, List, Option, ap, subst, sym}
use Rattle.audit_trail.specs.declared.entry.Entry.{Entry}
use Rattle.drive_base.specs.Trail.{GrewByReadings}
use Rattle.drive_base.specs.View.{view_at}
use Rattle.drive_base.specs.declared.drive.Drive.{Ghosts}
use Rattle.op_steps.specs.Store.{any_effect}
use Rattle.op_steps.proofs.TrailLemmas.{logs_are_trails, read_trail, trails_lead}
use Rattle.store_shared.specs.Among.{Reach}
use Rattle.store_shared.specs.AmongSteps.{IsBarredAmong, TurnsAmong}
use Rattle.store_shared.specs.SharedPasses.{set_held, shared_holds}
use Rattle.store_shared.specs.Trails.{PlainAnswersHaveTrails, SharedAnswersHaveTrails}

module _ {D A : Type 0} (ghosts : Ghosts D) (entries : A → Option (List Entry)) (count : A → ℕ) where
  pub plain_trails : PlainAnswersHaveTrails ghosts entries count
  plain_trails task before after body tale result answers k = logs_are_trails ghosts any_effect any_effect _ answers.log _ _ answers.ran k

  pub shared_trails : SharedAnswersHaveTrails ghosts entries count
  shared_trails task before after body tale result answers =
      let set = set_held (shared_holds before) in
      trails_lead (TurnsAmong ghosts entries count set) IsBarredAmong any_effect any_effect set
      (λ j made shown old new x k. subst (λ (r : Reach D A (Unit {0})). GrewByReadings (view_at old.disks k).trail (view_at r.disks k).trail) (sym x.leaves)
      (read_trail old.disks x.disks k x.moves.read))
      (λ j why old new x. ap (λ (r : Reach D A (Unit {0})). r.disks) x.leaves) answers.log _ _ answers.ran
