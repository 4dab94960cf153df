-- What a change of a slot's own brings, and what it leaves as trash.
use Rattle.std.specs.Prelude.{◌≡◌, ◌≢◌, ◌⊎◌, ℕ, List, ◌++◌, Contains, Some}
use Rattle.stamp_id.specs.declared.version.VersionId.{VersionId}
use Rattle.call_types.specs.declared.names.Key.{Key}
use Rattle.vote_core.specs.Lane.{Added}
use Rattle.slot_history.specs.Contents.{NamedData, NamesData, NamesId}
use Rattle.slot_history.specs.Names.{key_name}
use Rattle.slot_history.specs.Standing.{Flying, IsAdded}
use Rattle.slot_history.specs.State.{TakesOut}
use Rattle.register_caller.specs.WrittenLanes.{Written}
use Rattle.slot_data.specs.Holding.{Hands, Holding, IsInFlight, Known}
use Rattle.slot_data.specs.Standing.{AddsAreNamed, IsListed}

-- a put of these ends, or none does
abbrev pub MayEndOne : List Flying → List Flying → Type 0
MayEndOne flights rest = ((f : Flying) × TakesOut f flights rest) ⊎ (rest ≡ flights)

-- data that a change brings is that of the put which ends, and an op knows that it has its holders, with a manifest for this register
pub record IsBrought (flights rest : List Flying) (hands : Hands) (name : List ℕ) (named : NamedData) : Type 0 where
  pub flying : IsInFlight flights named.id
  pub ends : IsInFlight rest named.id → ⊥
  pub known : Contains hands.known (record { named = named; name = name })

-- a change brings data of the slot that has its holders, and adds what its content names
pub record BringsData (slot : ℕ) (flights rest : List Flying) (hands : Hands) (name : List ℕ) (x : Written) : Type 0 where
  pub of_slot : (id : VersionId) → NamesId name x.content id → id.slot ≡ slot
  pub brought : (named : NamedData) → NamesData name x.content named → IsAdded x.adds named → IsBrought flights rest hands name named
  pub adds : (added : Added) → x.adds ≡ Some added → AddsAreNamed name x.content added

-- data that a key doesn't name any more: its old content named it, and its new one doesn't
pub record IsGone (name old new : List ℕ) (id : VersionId) : Type 0 where
  pub at : Key
  pub name_is : name ≡ key_name at
  pub named : NamedData
  pub named_before : NamesData name old named
  pub id_is : named.id ≡ id
  pub unnamed : (other : NamedData) → NamesData name new other → other.id ≢ id

-- what a slot keeps when puts have ended and data is gone
abbrev pub with_gone : Holding → List Flying → List VersionId → Holding
with_gone holding rest gone = record { flights = rest; pins = holding.pins; trash = holding.trash ++ gone }

-- an op that ends a put doesn't go on to rely on its holders
pub record GoOn (hands less : Hands) (holding : Holding) : Type 0 where
  pub taken : (id : VersionId) → Contains less.taken id → Contains hands.taken id
  pub known : (x : Known) → Contains less.known x → Contains hands.known x
  pub listed : (x : Known) → Contains less.known x → IsListed holding x.named.id
