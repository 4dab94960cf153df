-- When the lanes of a slot stand for a state of it.
use Rattle.std.specs.Prelude.{◌≡◌, ◌⊎◌, ℕ, ◌≤◌, List, [], length, Option, Some, Contains}
use Rattle.stamp_id.specs.VersionId.{id_bytes}
use Rattle.stamp_id.specs.declared.version.VersionId.{VersionId}
use Rattle.call_types.specs.declared.names.Key.{Key}
use Rattle.vote_core.specs.Lane.{Added, HasNext, HasRecord, Lane, Next, blank_lane}
use Rattle.vote_core.specs.Sound.{HoldsValue, IsLive, LanesAreDrawn}
use Rattle.slot_history.specs.Contents.{IsContentOf, NamedData, NamesData, NamesId, number_of_id}
use Rattle.slot_history.specs.Names.{part_name}
use Rattle.slot_history.specs.State.{IsHeld, Register, State, Waiting}
use Rattle.slot_history.specs.Waiting.{IsLawful}

-- what the lanes of a slot keep under each name
abbrev pub Records : Type 0
Records = List ℕ → List Lane

-- a put that is under way: the id of its data, and the name of its key's register
pub record Flying : Type 0 where
  pub id : VersionId
  pub name : List ℕ

-- a change was drawn, and is not that of a put under way
pub record IsSpent (last : ℕ) (flights : List Flying) (change : ℕ) : Type 0 where
  pub drawn : change ≤ last
  pub landed : (f : Flying) → Contains flights f → number_of_id f.id ≡ change → ⊥

-- a next that may become the value is a change that waits, with that content
pub record WaitsAs (state : State) (name : List ℕ) (next : Next) (w : Waiting) : Type 0 where
  pub there : Contains state.pending w
  pub change_is : w.change ≡ next.change
  pub name_is : w.name ≡ name
  pub parent_is : w.parent ≡ next.parent
  pub content_is : w.content ≡ next.content

-- data is what a next adds, with its print
pub record IsAdded (adds : Option Added) (named : NamedData) : Type 0 where
  pub added : Added
  pub adds_is : adds ≡ Some added
  pub id_is : added.id ≡ id_bytes named.id
  pub print_is : added.print ≡ named.print

-- what the content of a next names as data stands in the register already, or is what the next adds
abbrev pub BringsItsOwn : List ℕ → Register → Next → Type 0
BringsItsOwn name register next = (named : NamedData) → NamesData name next.content named
    → NamesData name register.content named ⊎ IsAdded next.adds named

-- the lanes of a name that is held hold its register; each next that may become the value waits, and brings no data but its own
pub record StandsUnder (w last : ℕ) (lanes : List Lane) (state : State) (name : List ℕ) : Type 0 where
  pub holds : HoldsValue w last lanes (state.registers name).change (state.registers name).content
  pub waits : (a : Lane) (next : Next) → Contains lanes a → HasNext a next → IsLive lanes (state.registers name).change a next
      → (p : Waiting) × WaitsAs state name next p
  pub brings : (a : Lane) (next : Next) → Contains lanes a → HasNext a next → IsLive lanes (state.registers name).change a next
      → BringsItsOwn name (state.registers name) next

-- the lanes of any name: their numbers were drawn, each content is canonical for the name, and what it names and the change that made it were drawn
-- and are not under way
pub record IsLawfulUnder (drives last : ℕ) (flights : List Flying) (lanes : List Lane) (name : List ℕ) : Type 0 where
  pub counted : length lanes ≡ drives
  pub drawn : LanesAreDrawn last lanes
  pub contents : (a : Lane) (c : ℕ) (content : List ℕ) → Contains lanes a → HasRecord a c content → (content ≡ []) ⊎ IsContentOf name content
  pub ids : (a : Lane) (c : ℕ) (content : List ℕ) (id : VersionId) → Contains lanes a → HasRecord a c content → NamesId name content id
      → IsSpent last flights (number_of_id id)
  pub changes : (a : Lane) (c : ℕ) (content : List ℕ) → Contains lanes a → HasRecord a c content → IsSpent last flights c

-- no lane keeps a file
abbrev pub AreBlank : List Lane → Type 0
AreBlank lanes = (a : Lane) → Contains lanes a → a ≡ blank_lane

-- the lanes of a slot stand for a state, where w lanes must take a write, `last` is the last number that the slot drew, and these puts are under way
pub record Stands (w drives last : ℕ) (flights : List Flying) (records : Records) (state : State) : Type 0 where
  pub under : (name : List ℕ) → IsHeld state.registers name → StandsUnder w last (records name) state name
  pub lawful_under : (name : List ℕ) → IsLawfulUnder drives last flights (records name) name
  pub lawful : IsLawful state
  pub pending : (p : Waiting) → Contains state.pending p → IsSpent last flights p.change
  pub applied : (c : ℕ) → Contains state.applied c → IsSpent last flights c
  pub flying : (f : Flying) → Contains flights f → number_of_id f.id ≤ last
  pub uploads : (at : Key) (upload : VersionId) (number : ℕ)
      → AreBlank (records (part_name at upload number)) ⊎ Contains state.applied (number_of_id upload)
