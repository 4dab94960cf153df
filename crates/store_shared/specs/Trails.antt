-- The drive calls of a log are those that were made of the drives that a pass has.
use Rattle.std.specs.Prelude.{ℕ, List, Option, Result}
use Rattle.audit_trail.specs.declared.entry.Entry.{Entry}
use Rattle.call_types.specs.declared.feed.Cut.{Cut}
use Rattle.desk_base.specs.Answering.{Task}
use Rattle.desk_base.specs.Telling.{Telling}
use Rattle.drive_base.specs.Trail.{DriveCall}
use Rattle.drive_base.specs.View.{view_at, views}
use Rattle.drive_base.specs.declared.drive.Drive.{Ghosts}
use Rattle.op_steps.specs.Trails.{LeadsTrail}
use Rattle.store_shared.specs.Answers.{PlainAnswers}
use Rattle.store_shared.specs.Passes.{disks_of}
use Rattle.store_shared.specs.SharedAnswers.{SharedAnswers}
use Rattle.store_shared.specs.SharedPasses.{drives_of}
use Rattle.store_shared.specs.declared.pass.PlainPass.{PlainPass}
use Rattle.store_shared.specs.declared.op_desk.Receipt.{Receipt}
use Rattle.store_shared.specs.declared.shared.SharedPass.{SharedPass}

-- the calls that were made of the drive of an index, the newest first
abbrev pub trail_at : {D : Type 0} → Ghosts D → List D → ℕ → List DriveCall
trail_at ghosts drives k = (view_at (views ghosts drives) k).trail

module _ {D A : Type 0} (ghosts : Ghosts D) (entries : A → Option (List Entry)) (count : A → ℕ) where
  -- whatever a desk answers, the log's calls of each drive, and what its sections read, are the calls that were made of that drive, and no others
  abbrev pub PlainAnswersHaveTrails : Type 0
  PlainAnswersHaveTrails = (task : Task) (before after : PlainPass D A) (body : List ℕ) (tale : List Telling) (result : Result Receipt Cut)
      (answers : PlainAnswers ghosts entries count task before after body tale result) (k : ℕ)
      → LeadsTrail k answers.log (trail_at ghosts (disks_of before) k) (trail_at ghosts (disks_of after) k)

  -- so it is of the ways to the drives that a pass of a shared desk has, each of which tells the calls that were made by it
  abbrev pub SharedAnswersHaveTrails : Type 0
  SharedAnswersHaveTrails = (task : Task) (before after : SharedPass D A) (body : List ℕ) (tale : List Telling) (result : Result Receipt Cut)
      (answers : SharedAnswers ghosts entries count task before after body tale result) (k : ℕ)
      → LeadsTrail k answers.log (trail_at ghosts (drives_of before) k) (trail_at ghosts (drives_of after) k)
