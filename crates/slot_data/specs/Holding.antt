-- What a slot keeps in memory of data: puts under way, pins, and trash; and what ops have in hand.
use Rattle.std.specs.Prelude.{◌≡◌, ℕ, List, [], Contains}
use Rattle.stamp_id.specs.declared.version.VersionId.{VersionId}
use Rattle.slot_history.specs.Contents.{NamedData}
use Rattle.slot_history.specs.Standing.{Flying}

-- what a pin is for: a read or a heal of versions, or a Complete, which may still name the parts
pub data Purpose : Type 0 where
  ForRead : Purpose
  ForHeal : Purpose
  ForComplete : Purpose

-- a pin: the ticket of the section that made it, what it is for, the name of its key's register, and the ids of data that must stay
pub record Pinned : Type 0 where
  pub ticket : ℕ
  pub purpose : Purpose
  pub name : List ℕ
  pub ids : List VersionId

-- what a slot keeps in memory
pub record Holding : Type 0 where
  pub flights : List Flying
  pub pins : List Pinned
  pub trash : List VersionId

-- a slot that keeps nothing
abbrev pub no_holding : Holding
no_holding = record { flights = []; pins = []; trash = [] }

-- a pin of this purpose names an id
pub record IsPinnedFor (purpose : Purpose) (pins : List Pinned) (id : VersionId) : Type 0 where
  pub pin : Pinned
  pub there : Contains pins pin
  pub purpose_is : pin.purpose ≡ purpose
  pub names : Contains pin.ids id

-- some pin names it
pub record IsPinned (pins : List Pinned) (id : VersionId) : Type 0 where
  pub pin : Pinned
  pub there : Contains pins pin
  pub names : Contains pin.ids id

-- a put of this id is under way
pub record IsInFlight (flights : List Flying) (id : VersionId) : Type 0 where
  pub flight : Flying
  pub there : Contains flights flight
  pub id_is : flight.id ≡ id

-- data of which an op knows that it has its holders, and the name of the register that its manifest is for
pub record Known : Type 0 where
  pub named : NamedData
  pub name : List ℕ

-- what ops have in hand: the ids that they took from the trash or found dead, and what they know to have its holders: the data of puts whose staging
-- ended well, and that of parts which a Complete has gathered
pub record Hands : Type 0 where
  pub taken : List VersionId
  pub known : List Known

-- ops that have nothing in hand
abbrev pub no_hands : Hands
no_hands = record { taken = []; known = [] }
