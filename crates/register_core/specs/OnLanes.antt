-- A register's records on the drives of its lanes, of which some are out: these are neither read nor written, and any record may stand in their place.
use Rattle.std.specs.Prelude.{◌≡◌, ℕ, ◌<◌, ◌≤◌, ◌^◌, Bool, IsTrue, List, None, length, slice_index_or}
use Rattle.std.specs.Int.{IsBitSet}
use Rattle.drive_base.specs.Files.{Files}
use Rattle.vote_core.specs.Lane.{Lane, lane_at}
use Rattle.register_core.specs.Loose.{loose_name}
use Rattle.register_core.specs.Records.{HasLane, IsHonest}

module _ {D : Type 0} (tells : D → Bool) where
  -- each lane that isn't out tells what it holds
  abbrev pub AllTell : ℕ → List D → Type 0
  AllTell out drives = (k : ℕ) (default : D) → k < length drives → (IsBitSet out k → ⊥) → IsTrue (tells (slice_index_or drives k default))

module _ {D : Type 0} (files : D → Files) where
  -- each lane that isn't out keeps its record under the register's name
  pub record AreLanes (out : ℕ) (name : List ℕ) (drives : List D) (lanes : List Lane) : Type 0 where
    pub counted : length lanes ≡ length drives
    pub each : (k : ℕ) (default : D) → k < length drives → (IsBitSet out k → ⊥)
        → HasLane ((files (slice_index_or drives k default)).kept name) (lane_at lanes k)

  -- the damage of the register's files is honest
  abbrev pub AreHonest : ℕ → List ℕ → List D → Type 0
  AreHonest out name drives = (k : ℕ) (default : D) → k < length drives → (IsBitSet out k → ⊥)
      → IsHonest ((files (slice_index_or drives k default)).kept name) ((files (slice_index_or drives k default)).shown name)

  -- no lane has a loose file of this term whose number is this one or a later one
  abbrev pub AreUnused : ℕ → ℕ → ℕ → List D → Type 0
  AreUnused out term number drives = (k : ℕ) (default : D) (later : ℕ) → k < length drives → (IsBitSet out k → ⊥)
      → number ≤ later → later < 2 ^ 64 → (files (slice_index_or drives k default)).loose (loose_name term later) ≡ None
