-- What ops hold of a slot and of the data drives between two steps.
use Rattle.std.specs.Prelude.{◌≡◌, ◌⊎◌, ℕ, ◌<◌, ◌^◌, ◌==◌, Bool, IsTrue, bit_and, if◌then◌else◌, List, [], ◌∷◌, ◌++◌, Contains, filter, length, map, nat_eq, option_to_list, option_map, Option, Some, None}
use Rattle.std.specs.Int.{IsBitSet}
use Rattle.std.specs.List.{flat_map, range_with_len}
use Rattle.drive_base.specs.Files.{Files, Named}
use Rattle.drive_base.specs.View.{DriveView, view_at}
use Rattle.drive_base.specs.declared.plan.SetPlan.{SetPlan}
use Rattle.manifest_file.specs.Spelling.{manifest_kind}
use Rattle.put_stage.specs.Cells.{DataCells, data_of}
use Rattle.put_stage.specs.Work.{HasNoneLoose, Keeps}
use Rattle.seal_file.specs.Sealing.{IsDamage}
use Rattle.seal_file.specs.declared.damage.Damage.{Damage}
use Rattle.stamp_id.specs.declared.version.VersionId.{VersionId}
use Rattle.version_list.specs.State.{AreDistinct}
use Rattle.body_print.specs.Names.{manifest_name, shard_name}
use Rattle.slot_history.specs.Contents.{number_of_id}
use Rattle.slot_history.specs.Standing.{Flying, Records}
use Rattle.slot_history.specs.State.{State}
use Rattle.slot_data.specs.Disks.{Disks, kept_on}
use Rattle.slot_data.specs.Holding.{Hands, Holding, Known, Pinned}
use Rattle.slot_data.specs.Standing.{DataStands}
use Rattle.slot_core.specs.Views.{SlotNumbers, last_of}

-- what a drive has under the four names of an id: exactly this, or, after a call that failed, kept files that are one of two pairs
pub data Expected : Type 0 where
  Exactly : DataCells → Expected
  KeepsEither : Option (List ℕ) → Option (List ℕ) → Option (List ℕ) → Option (List ℕ) → Expected

abbrev pub IsExpected : Expected → DataCells → Type 0
IsExpected (Exactly cells) found = found ≡ cells
IsExpected (KeepsEither manifest shard later_manifest later_shard) found = Keeps manifest shard found ⊎ Keeps later_manifest later_shard found

-- what a stage at work expects of each drive under its id
pub record Staging : Type 0 where
  pub id : VersionId
  pub expected : ℕ → Expected

-- what one op holds: its slot; of that slot a put under way and a pin, if it has them; what it is staging; the ids whose files it is to remove; and
-- the data of which it knows that it has its holders
pub record Claim : Type 0 where
  pub slot : ℕ
  pub flight : Option Flying
  pub pin : Option Pinned
  pub stage : Option Staging
  pub taken : List VersionId
  pub known : List Known

-- nothing of a slot
abbrev pub no_claim : ℕ → Claim
no_claim slot = record { slot = slot; flight = None; pin = None; stage = None; taken = []; known = [] }

-- whether a claim is of this slot, and the claims that are
abbrev pub is_at : ℕ → Claim → Bool
is_at slot claim = nat_eq claim.slot slot

abbrev pub claims_at : ℕ → List Claim → List Claim
claims_at slot claims = filter (is_at slot) claims

-- one claim among those of others
abbrev pub among : List Claim → Claim → List Claim → List Claim
among front claim rest = front ++ claim ∷ rest

-- what ops have in hand with these claims
abbrev pub hands_of : List Claim → Hands
hands_of claims = record { taken = flat_map (λ (c : Claim). c.taken) claims; known = flat_map (λ (c : Claim). c.known) claims }

-- the ids of their puts, and the tickets of their pins
abbrev pub flights_in : List Claim → List VersionId
flights_in claims = flat_map (λ (c : Claim). option_to_list (option_map (λ (f : Flying). f.id) c.flight)) claims

abbrev pub pins_in : List Claim → List ℕ
pins_in claims = flat_map (λ (c : Claim). option_to_list (option_map (λ (p : Pinned). p.ticket) c.pin)) claims

-- no two claims are of one put, or of one pin
pub record AllApart (claims : List Claim) : Type 0 where
  pub flights : AreDistinct (flights_in claims)
  pub pins : AreDistinct (pins_in claims)

-- bytes that are no sealed file of a manifest
abbrev pub IsUnsealed : List ℕ → Type 0
IsUnsealed bytes = (damage : Damage) × IsDamage manifest_kind bytes damage

-- under a name files show no bytes but those that are kept, or such that a rule calls damaged; nothing may be shown of what is kept
abbrev pub ShowsNoOther : (List ℕ → Type 0) → List ℕ → Files → Type 0
ShowsNoOther IsDamaged name files = (bytes : List ℕ) → files.shown name ≡ Some bytes → (files.kept name ≡ Some bytes) ⊎ IsDamaged bytes

-- damage of manifests is honest: under the name of each the files show no bytes but those that are kept, or such that are no sealed file of a manifest
abbrev pub HasHonestManifests : Files → Type 0
HasHonestManifests files = (id : VersionId) → ShowsNoOther IsUnsealed (manifest_name id) files

-- each drive of a set that is in use tells what it holds, and damage of its manifests is honest
pub record DisksTell (set : SetPlan) (disks : List DriveView) : Type 0 where
  pub count : length disks ≡ set.drives
  pub tell : (k : ℕ) → k < set.drives → (IsBitSet set.out k → ⊥) → IsTrue (view_at disks k).tells
  pub honest : (k : ℕ) → k < set.drives → (IsBitSet set.out k → ⊥) → HasHonestManifests (view_at disks k).files

-- what a drive keeps that counts: one in use what it shows; in the place of one that is out any files may stand, of which no step knows
abbrev pub counted_on : Disks → ℕ → List DriveView → ℕ → Named (List ℕ)
counted_on unseen out disks k = if bit_and out (2 ^ k) == 0 then (view_at disks k).files.kept else kept_on unseen k

abbrev pub disks_of : Disks → ℕ → List DriveView → Disks
disks_of unseen out disks = map (counted_on unseen out disks) (range_with_len 0 (length disks))

-- under the names of its id each drive in use has what a stage expects
abbrev pub IsAtWork : SetPlan → List DriveView → Staging → Type 0
IsAtWork set disks staging = (k : ℕ) → k < set.drives → (IsBitSet set.out k → ⊥)
    → IsExpected (staging.expected k) (data_of staging.id (view_at disks k).files)

-- an id is that of the claim's own put, or of its own pin
abbrev pub IsOwn : Claim → VersionId → Type 0
IsOwn claim id = ((f : Flying) × (claim.flight ≡ Some f) × (f.id ≡ id)) ⊎ ((p : Pinned) × (claim.pin ≡ Some p) × Contains p.ids id)

-- nothing is kept under the names of an id
pub record KeepsNone (id : VersionId) (kept : Named (List ℕ)) : Type 0 where
  pub manifest : kept (manifest_name id) ≡ None
  pub shard : kept (shard_name id) ≡ None

-- a claim is met: the slot lists its put and its pin, the drives have what its stage, which is of its put, expects, and it knows holders of its own alone;
-- drives that are out keep nothing of its put
pub record IsMet (set : SetPlan) (holding : Holding) (unseen : Disks) (disks : List DriveView) (claim : Claim) : Type 0 where
  pub flight : (f : Flying) → claim.flight ≡ Some f → Contains holding.flights f
  pub pin : (p : Pinned) → claim.pin ≡ Some p → Contains holding.pins p
  pub staged : (s : Staging) → claim.stage ≡ Some s → (f : Flying) × (claim.flight ≡ Some f) × (s.id ≡ f.id)
  pub works : (s : Staging) → claim.stage ≡ Some s → IsAtWork set disks s
  pub known : (x : Known) → Contains claim.known x → IsOwn claim x.named.id
  pub unwritten : (f : Flying) (k : ℕ) → claim.flight ≡ Some f → k < set.drives → IsBitSet set.out k → KeepsNone f.id (kept_on unseen k)

-- the data of a slot of this set and index, of which this number was drawn last, stands with what ops have in hand by these claims, and with these files
-- on the drives that are out; no drive in use has a loose file of an id that wasn't drawn; those claims that are of the slot are met and apart, and each put
-- and each pin that the slot lists is one of theirs
pub record HoldsAt (set : SetPlan) (index last : ℕ) (holding : Holding) (unseen : Disks) (disks : List DriveView) (claims : List Claim) (records : Records)
    (state : State) : Type 0 where
  pub tell : DisksTell set disks
  pub stands : DataStands set index last records state holding (disks_of unseen set.out disks) (hands_of (claims_at index claims))
  pub loose : (k : ℕ) (id : VersionId) → k < set.drives → (IsBitSet set.out k → ⊥) → id.slot ≡ index → last < number_of_id id
      → HasNoneLoose (data_of id (view_at disks k).files)
  pub met : (c : Claim) → Contains (claims_at index claims) c → IsMet set holding unseen disks c
  pub apart : AllApart (claims_at index claims)
  pub flights_are : (f : Flying) → Contains holding.flights f → (c : Claim) × Contains (claims_at index claims) c × (c.flight ≡ Some f)
  pub pins_are : (p : Pinned) → Contains holding.pins p → (c : Claim) × Contains (claims_at index claims) c × (c.pin ≡ Some p)

-- that of a slot of these numbers
abbrev pub DataHolds : SlotNumbers → Holding → Disks → List DriveView → List Claim → Records → State → Type 0
DataHolds numbers holding unseen disks claims records state = HoldsAt numbers.set numbers.index (last_of numbers) holding unseen disks claims records state
