-- When a slot may write a change of its own, and what it leaves.
use Rattle.std.specs.Prelude.{◌≡◌, ◌≢◌, ◌⊎◌, ℕ, ◌<◌, ◌≤◌, List, Contains}
use Rattle.stamp_id.specs.declared.version.VersionId.{VersionId}
use Rattle.call_types.specs.declared.names.Key.{Key}
use Rattle.slot_history.specs.Contents.{HasOpen, IsContentOf, NamedData, NamesData, NamesId, number_of_id}
use Rattle.slot_history.specs.Names.{key_name, part_name}
use Rattle.slot_history.specs.Standing.{Flying, IsAdded, IsSpent}
use Rattle.slot_history.specs.State.{IsHeld, State}
use Rattle.register_caller.specs.WrittenLanes.{Written}

-- one flight ends: it was listed, and no other flight has its number. The others go on
pub record Ends (flights rest : List Flying) (number : ℕ) : Type 0 where
  pub flight : Flying
  pub listed : Contains flights flight
  pub number_is : number_of_id flight.id ≡ number
  pub others : (f : Flying) → Contains rest f → Contains flights f
  pub ended : (f : Flying) → Contains rest f → number_of_id f.id ≢ number

-- the number of a change of one's own is new: it was drawn for a flight that ends now, or was drawn now
abbrev pub IsOwnNumber : ℕ → ℕ → List Flying → List Flying → ℕ → Type 0
IsOwnNumber last later flights rest number = Ends flights rest number ⊎ ((last < number) × (number ≤ later) × (rest ≡ flights))

-- a change of one's own may be written over a register: its content is canonical and names what was drawn and is not under way, its data is named
-- already or comes with it, and it opens no upload but those open and its own
pub record MayCommit (last later : ℕ) (flights rest : List Flying) (state : State) (name : List ℕ) (x : Written) : Type 0 where
  pub held : IsHeld state.registers name
  pub number : IsOwnNumber last later flights rest x.change
  pub some : 0 < x.change
  pub canonical : IsContentOf name x.content
  pub ids : (id : VersionId) → NamesId name x.content id → IsSpent later rest (number_of_id id)
  pub brings : (named : NamedData) → NamesData name x.content named → NamesData name (state.registers name).content named ⊎ IsAdded x.adds named
  pub opens : (at : Key) (upload : VersionId) → name ≡ key_name at → HasOpen x.content upload
      → HasOpen (state.registers name).content upload ⊎ (number_of_id upload ≡ x.change)
  pub part : (at : Key) (upload : VersionId) (number : ℕ) → name ≡ part_name at upload number → HasOpen (state.registers (key_name at)).content upload
