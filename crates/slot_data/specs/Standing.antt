-- When the data of a slot stands: what is named, coming or pinned has its holders, and nothing that is to be removed is live.
use Rattle.std.specs.Prelude.{◌≡◌, ◌⊎◌, ℕ, ◌≤◌, List, map, Contains, Some}
use Rattle.stamp_id.specs.VersionId.{id_bytes}
use Rattle.stamp_id.specs.declared.version.VersionId.{VersionId}
use Rattle.call_types.specs.declared.names.Key.{Key}
use Rattle.drive_base.specs.declared.plan.SetPlan.{SetPlan}
use Rattle.manifest_file.specs.declared.manifest.Manifest.{Manifest}
use Rattle.version_list.specs.State.{AreDistinct}
use Rattle.vote_core.specs.Lane.{Added, HasNext, HasRecord, Lane, Next}
use Rattle.vote_core.specs.Sound.{IsLive}
use Rattle.slot_history.specs.Contents.{NamedData, NamesData, NamesId, number_of_id}
use Rattle.slot_history.specs.Names.{key_name}
use Rattle.slot_history.specs.Standing.{Flying, Records}
use Rattle.slot_history.specs.State.{IsHeld, State}
use Rattle.slot_data.specs.Disks.{AreInOrder, Disks, HasHolders, HasHoldersFor, IsForKeyOf, IsPieceOf, Keeps}
use Rattle.slot_data.specs.Holding.{Hands, Holding, IsInFlight, IsPinned, IsPinnedFor, Known, Pinned}
use Rattle.slot_data.specs.Holding.Purpose.{ForComplete}
use Rattle.slot_data.specs.Live.{IsComing, IsHeldData, IsLiveData, IsNamed}

-- some record of a name, base or next, names an id as data
pub record RecordNames (records : Records) (name : List ℕ) (id : VersionId) : Type 0 where
  pub lane : Lane
  pub change : ℕ
  pub content : List ℕ
  pub there : Contains (records name) lane
  pub has : HasRecord lane change content
  pub named : NamedData
  pub names : NamesData name content named
  pub id_is : named.id ≡ id

-- some record of a name names an id in any way
pub record RecordNamesId (records : Records) (name : List ℕ) (id : VersionId) : Type 0 where
  pub lane : Lane
  pub change : ℕ
  pub content : List ℕ
  pub there : Contains (records name) lane
  pub has : HasRecord lane change content
  pub names : NamesId name content id

-- an id is of a whole body: some record of a key's register names it as data
abbrev pub IsWhole : Records → VersionId → Type 0
IsWhole records id = (at : Key) × RecordNames records (key_name at) id

-- what a change adds is what its content names, with its print
pub record AddsAreNamed (name content : List ℕ) (added : Added) : Type 0 where
  pub named : NamedData
  pub names : NamesData name content named
  pub id_is : added.id ≡ id_bytes named.id
  pub print_is : added.print ≡ named.print

-- what the lanes of a slot name: ids of the slot, each as the data of one register alone
pub record NamesStand (slot : ℕ) (records : Records) : Type 0 where
  pub of_slot : (name : List ℕ) (id : VersionId) → RecordNamesId records name id → id.slot ≡ slot
  pub one_name : (id : VersionId) (name other : List ℕ) → RecordNames records name id → RecordNames records other id → name ≡ other

-- puts under way are of the slot and differ; nothing but its put has the id of one; and what the manifest of one has as a part is its own data, or
-- that of a part that a Complete has pinned
pub record FlightsStand (set : SetPlan) (slot : ℕ) (records : Records) (holding : Holding) (disks : Disks) : Type 0 where
  pub of_slot : (f : Flying) → Contains holding.flights f → f.id.slot ≡ slot
  pub differ : AreDistinct (map (λ (f : Flying). f.id) holding.flights)
  pub unnamed : (f : Flying) (name : List ℕ) → Contains holding.flights f → RecordNamesId records name f.id → ⊥
  pub unpinned : (f : Flying) → Contains holding.flights f → IsPinned holding.pins f.id → ⊥
  pub no_trash : (f : Flying) → Contains holding.flights f → Contains holding.trash f.id → ⊥
  pub no_part : (f : Flying) (whole : VersionId) → Contains holding.flights f → IsPieceOf set disks whole f.id → whole ≡ f.id
  pub gathered : (f : Flying) (id : VersionId) → Contains holding.flights f → IsPieceOf set disks f.id id → (id ≡ f.id) ⊎ IsPinnedFor ForComplete holding.pins id
  pub named : (f : Flying) (m : Manifest) → Contains holding.flights f → Keeps set disks f.id m → IsForKeyOf f.name m.name

-- pins differ by their tickets; their ids are of the slot and were drawn; what they name has its holders, and manifests for the key that the pin names;
-- and the ids of a Complete's pin are of no whole body
pub record PinsStand (set : SetPlan) (slot last : ℕ) (records : Records) (pins : List Pinned) (disks : Disks) : Type 0 where
  pub differ : AreDistinct (map (λ (p : Pinned). p.ticket) pins)
  pub of_slot : (id : VersionId) → IsPinned pins id → id.slot ≡ slot
  pub drawn : (id : VersionId) → IsPinned pins id → number_of_id id ≤ last
  pub named : (p : Pinned) (id : VersionId) (m : Manifest) → Contains pins p → Contains p.ids id → Keeps set disks id m → IsForKeyOf p.name m.name
  pub held : (p : Pinned) (id : VersionId) → Contains pins p → Contains p.ids id → HasHoldersFor set disks p.name id
  pub parts : (id : VersionId) → IsPinnedFor ForComplete pins id → IsWhole records id → ⊥

-- what is trash isn't held, and is no part of what is pinned but of itself; its ids are of the slot and were drawn
pub record TrashStands (set : SetPlan) (slot last : ℕ) (records : Records) (state : State) (holding : Holding) (disks : Disks) : Type 0 where
  pub unheld : (id : VersionId) → Contains holding.trash id → IsHeldData set records state holding disks id → ⊥
  pub no_part : (id whole : VersionId) → Contains holding.trash id → IsPinned holding.pins whole → IsPieceOf set disks whole id → id ≡ whole
  pub of_slot : (id : VersionId) → Contains holding.trash id → id.slot ≡ slot
  pub drawn : (id : VersionId) → Contains holding.trash id → number_of_id id ≤ last

-- data is a put's that is under way, or pinned
abbrev pub IsListed : Holding → VersionId → Type 0
IsListed holding id = IsInFlight holding.flights id ⊎ IsPinned holding.pins id

-- what an op is to remove isn't live; its ids are of the slot and were drawn. What an op knows to have its holders has them, and is in flight or pinned
pub record HandsStand (set : SetPlan) (slot last : ℕ) (records : Records) (state : State) (holding : Holding) (disks : Disks) (hands : Hands) : Type 0 where
  pub dead : (id : VersionId) → Contains hands.taken id → IsLiveData set records state holding disks id → ⊥
  pub of_slot : (id : VersionId) → Contains hands.taken id → id.slot ≡ slot
  pub drawn : (id : VersionId) → Contains hands.taken id → number_of_id id ≤ last
  pub listed : (x : Known) → Contains hands.known x → IsListed holding x.named.id
  pub holders : (x : Known) → Contains hands.known x → HasHolders set disks x.named x.name

-- what is named, and what is coming, has its holders; what a change on its way adds its content names; and a whole body is a part of none but itself
pub record HoldersStand (set : SetPlan) (records : Records) (state : State) (disks : Disks) : Type 0 where
  pub named : (name : List ℕ) (named : NamedData) → IsNamed state name named → HasHolders set disks named name
  pub coming : (name : List ℕ) (named : NamedData) → IsComing records state name named → HasHolders set disks named name
  pub adds : (name : List ℕ) (a : Lane) (next : Next) (added : Added) → IsHeld state.registers name → Contains (records name) a → HasNext a next
      → IsLive (records name) (state.registers name).change a next → next.adds ≡ Some added → AddsAreNamed name next.content added
  pub wholes : (whole id : VersionId) → IsPieceOf set disks whole id → IsWhole records id → whole ≡ id

-- the data of a slot stands, with what its ops have in hand
pub record DataStands (set : SetPlan) (slot last : ℕ) (records : Records) (state : State) (holding : Holding) (disks : Disks) (hands : Hands) : Type 0 where
  pub names : NamesStand slot records
  pub files : AreInOrder set slot last disks
  pub flights : FlightsStand set slot records holding disks
  pub pins : PinsStand set slot last records holding.pins disks
  pub trash : TrashStands set slot last records state holding disks
  pub in_hand : HandsStand set slot last records state holding disks hands
  pub holders : HoldersStand set records state disks
