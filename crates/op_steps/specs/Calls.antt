-- Which calls of data drives an op may make, whatever these drives tell.
use Rattle.std.specs.Prelude.{◌≡◌, ◌⊎◌, ℕ, List, Contains, Some}
use Rattle.body_print.specs.Names.{loose_manifest_name, loose_shard_name, manifest_name, shard_name}
use Rattle.drive_base.specs.Trail.{DriveCall, Size, Read, Append, Sync, Rename, Discard, Remove, Names}
use Rattle.stamp_id.specs.declared.version.VersionId.{VersionId}
use Rattle.slot_history.specs.Standing.{Flying}
use Rattle.op_steps.specs.Claims.{Claim}

-- a loose name is one of the two of the put that is under way
abbrev pub IsOwnLoose : Claim → List ℕ → Type 0
IsOwnLoose claim loose = (f : Flying) × (claim.flight ≡ Some f) × ((loose ≡ loose_manifest_name f.id) ⊎ (loose ≡ loose_shard_name f.id))

-- it is, and the name is the one under which its file is to be kept
abbrev pub IsOwnPlace : Claim → List ℕ → List ℕ → Type 0
IsOwnPlace claim loose name = (f : Flying) × (claim.flight ≡ Some f) × (((loose ≡ loose_manifest_name f.id) × (name ≡ manifest_name f.id))
    ⊎ ((loose ≡ loose_shard_name f.id) × (name ≡ shard_name f.id)))

-- a name is one of the two of an id that the op took from the trash
abbrev pub IsTakenName : Claim → List ℕ → Type 0
IsTakenName claim name = (id : VersionId) × Contains claim.taken id × ((name ≡ manifest_name id) ⊎ (name ≡ shard_name id))

-- an op may ask for anything, write and place the files of its own put, and remove the files of ids that it took from the trash
abbrev pub MayCall : Claim → DriveCall → Type 0
MayCall claim (Size name answer) = Unit {0}
MayCall claim (Read name at before answer after) = Unit {0}
MayCall claim (Append loose bytes answer) = IsOwnLoose claim loose
MayCall claim (Sync loose answer) = IsOwnLoose claim loose
MayCall claim (Rename loose name answer) = IsOwnPlace claim loose name
MayCall claim (Discard loose answer) = IsOwnLoose claim loose
MayCall claim (Remove name answer) = IsTakenName claim name
MayCall claim (Names from most answer) = Unit {0}
