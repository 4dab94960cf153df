-- The data of a slot stands while files of another slot's data are removed.
use Rattle.std.proofs.Common.{◌≢◌, ℕ}
use Rattle.stamp_id.specs.declared.version.VersionId.{VersionId}
use Rattle.drive_base.specs.declared.plan.SetPlan.{SetPlan}
use Rattle.slot_history.specs.Standing.{Records}
use Rattle.slot_history.specs.State.{State}
use Rattle.slot_data.specs.DiskLaws.{IsRemoved}
use Rattle.slot_data.specs.Disks.{Disks}
use Rattle.slot_data.specs.Holding.{Hands, Holding}
use Rattle.slot_data.specs.Moves.{LanesStand}
use Rattle.slot_data.specs.Standing.{DataStands}
use Rattle.slot_data.proofs.ElsewhereLemmas.{elsewhere_stands}
use Rattle.slot_data.proofs.RemovedLemmas.{piece_was_removed}

module _ (set : SetPlan) (slot last : ℕ) (records : Records) (state : State) (holding : Holding) (old new : Disks) (hands : Hands) (other : VersionId)
    (stands : LanesStand set last holding records state) (wrong : other.slot ≢ slot) (removed : IsRemoved set other old new)
    (d : DataStands set slot last records state holding old hands) where
  pub removed_elsewhere : DataStands set slot last records state holding new hands
  removed_elsewhere = elsewhere_stands set slot last records state holding old new hands other stands wrong removed.only
      (λ whole id of piece. piece_was_removed set old new other removed whole id piece) d
