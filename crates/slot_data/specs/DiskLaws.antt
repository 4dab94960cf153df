-- The laws of a slot's data while data drives are written.
use Rattle.std.specs.Prelude.{◌≡◌, ◌≢◌, ◌⊎◌, ℕ, ◌<◌, false, List, Option, None, Contains}
use Rattle.std.specs.Str.{bytes_eq}
use Rattle.stamp_id.specs.declared.version.VersionId.{VersionId}
use Rattle.drive_base.specs.declared.plan.SetPlan.{SetPlan}
use Rattle.manifest_file.specs.declared.manifest.Manifest.{Manifest}
use Rattle.body_print.specs.Names.{manifest_name, shard_name}
use Rattle.slot_history.specs.Standing.{Flying, Records}
use Rattle.slot_history.specs.State.{State}
use Rattle.slot_data.specs.Disks.{Disks, HasPart, IsForKeyOf, IsPartName, IsSingle, Keeps, kept_on}
use Rattle.slot_data.specs.Holding.{Hands, Holding, IsPinnedFor, Known}
use Rattle.slot_data.specs.Holding.Purpose.{ForComplete}
use Rattle.slot_data.specs.Moves.{LanesStand}
use Rattle.slot_data.specs.Standing.{DataStands}

-- a name is none of the two under which a drive keeps the data of an id
abbrev pub IsElsewhere : VersionId → List ℕ → Type 0
IsElsewhere id name = (bytes_eq (manifest_name id) name ≡ false) × (bytes_eq (shard_name id) name ≡ false)

-- only what drives keep under the two names of an id is changed
abbrev pub OnlyUnder : SetPlan → VersionId → Disks → Disks → Type 0
OnlyUnder set id old new = (k : ℕ) (name : List ℕ) → k < set.drives → IsElsewhere id name → kept_on new k name ≡ kept_on old k name

-- a part that a Complete has gathered: it has a pin of it, and an op knows that it has its holders, for a part of the key that a manifest is for
pub record IsGathered (holding : Holding) (hands : Hands) (m : Manifest) (id : VersionId) : Type 0 where
  pub pinned : IsPinnedFor ForComplete holding.pins id
  pub known : Known
  pub there : Contains hands.known known
  pub id_is : known.named.id ≡ id
  pub key : IsForKeyOf m.name known.name
  pub part : IsPartName known.name

-- a manifest that a put under way may write: it is for the put's key or a part of it, and its parts are the put's own data, or parts that a Complete has
-- gathered; where it is for a part it has its own data alone
pub record MayBeKept (holding : Holding) (hands : Hands) (f : Flying) (m : Manifest) : Type 0 where
  pub key : IsForKeyOf f.name m.name
  pub pieces : (id : VersionId) → HasPart m id → (id ≡ f.id) ⊎ IsGathered holding hands m id
  pub single : IsPartName m.name → IsSingle m f.id

-- a put under way of which no op relies on the holders writes: the data of the slot goes on to stand
abbrev pub FlightWrites : Type 0
FlightWrites = (set : SetPlan) (slot last : ℕ) (records : Records) (state : State) (holding : Holding) (old new : Disks) (hands : Hands) (f : Flying)
    → LanesStand set last holding records state → Contains holding.flights f → OnlyUnder set f.id old new
    → ((x : Known) → Contains hands.known x → x.named.id ≢ f.id)
    → ((m : Manifest) → Keeps set new f.id m → Keeps set old f.id m ⊎ MayBeKept holding hands f m)
    → DataStands set slot last records state holding old hands
    → DataStands set slot last records state holding new hands

-- what is kept under a name stays, or nothing is kept there
abbrev pub StaysOrGoes : Option (List ℕ) → Option (List ℕ) → Type 0
StaysOrGoes old new = (new ≡ old) ⊎ (new ≡ None)

-- some of what drives keep of the data of an id is removed, and nothing else
pub record IsRemoved (set : SetPlan) (id : VersionId) (old new : Disks) : Type 0 where
  pub only : OnlyUnder set id old new
  pub manifests : (k : ℕ) → k < set.drives → StaysOrGoes (kept_on old k (manifest_name id)) (kept_on new k (manifest_name id))
  pub shards : (k : ℕ) → k < set.drives → StaysOrGoes (kept_on old k (shard_name id)) (kept_on new k (shard_name id))

-- an op removes files of data that it took
abbrev pub TakenIsRemoved : Type 0
TakenIsRemoved = (set : SetPlan) (slot last : ℕ) (records : Records) (state : State) (holding : Holding) (old new : Disks) (hands : Hands) (id : VersionId)
    → Contains hands.taken id → IsRemoved set id old new
    → DataStands set slot last records state holding old hands
    → DataStands set slot last records state holding new hands

-- under an id of another slot something is written that has no part of this slot
abbrev pub ElsewhereIsWritten : Type 0
ElsewhereIsWritten = (set : SetPlan) (slot last : ℕ) (records : Records) (state : State) (holding : Holding) (old new : Disks) (hands : Hands)
    (other : VersionId)
    → LanesStand set last holding records state → other.slot ≢ slot → OnlyUnder set other old new
    → ((m : Manifest) (id : VersionId) → Keeps set new other m → HasPart m id → id.slot ≢ slot)
    → DataStands set slot last records state holding old hands
    → DataStands set slot last records state holding new hands
