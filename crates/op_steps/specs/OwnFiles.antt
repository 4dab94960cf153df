-- What the calls that an op may make leave of the files of a drive that tells them.
use Rattle.std.specs.Prelude.{◌≡◌, ◌⊎◌, IsTrue, Contains, Some}
use Rattle.drive_base.specs.DriveModel.{DriveModel}
use Rattle.drive_base.specs.Trail.{DriveCall}
use Rattle.drive_base.specs.View.{DriveView}
use Rattle.stamp_id.specs.declared.version.VersionId.{VersionId}
use Rattle.slot_history.specs.Standing.{Flying}
use Rattle.op_steps.specs.Calls.{MayCall}
use Rattle.op_steps.specs.Claims.{Claim}
use Rattle.op_steps.specs.Moves.{KeepsOthers, LosesFile}

-- what is no data stays
abbrev pub OwnCallsKeepOthers : Type 0
OwnCallsKeepOthers = (claim : Claim) (call : DriveCall) (old new : DriveView) → MayCall claim call → DriveModel call old new → IsTrue old.tells
    → KeepsOthers old.files new.files

-- and of data all but files that the op took, or of its own put
abbrev pub OwnCallsLoseOwnFiles : Type 0
OwnCallsLoseOwnFiles = (claim : Claim) (call : DriveCall) (old new : DriveView) (id : VersionId) → MayCall claim call → DriveModel call old new
    → IsTrue old.tells → LosesFile id old.files new.files → Contains claim.taken id ⊎ ((f : Flying) × (claim.flight ≡ Some f) × (f.id ≡ id))
