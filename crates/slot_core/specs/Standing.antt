-- When the lanes of a slot stand for a state.
use Rattle.std.specs.Prelude.{ℕ, ◌<◌, ◌^◌, Bool, List}
use Rattle.drive_base.specs.Files.{Files}
use Rattle.register_core.specs.OnLanes.{AllTell, AreHonest, AreLanes, AreUnused}
use Rattle.slot_history.specs.Standing.{Flying, Records, Stands}
use Rattle.slot_history.specs.State.{State}
use Rattle.slot_core.specs.Views.{SlotNumbers, last_of, quorum_of}

module _ {D : Type 0} (tells : D → Bool) (files : D → Files) where
  -- the lanes in use tell what they keep, their damage is honest, no loose name that is still to come is in use, in this term or in a later one, and
  -- they keep these records
  pub record LanesHave (numbers : SlotNumbers) (lanes : List D) (records : Records) : Type 0 where
    pub tell : AllTell tells numbers.set.out lanes
    pub unused : AreUnused files numbers.set.out numbers.term numbers.count lanes
    pub unused_later : (term : ℕ) → numbers.term < term → term < 2 ^ 48 → AreUnused files numbers.set.out term 0 lanes
    pub honest : (name : List ℕ) → AreHonest files numbers.set.out name lanes
    pub are : (name : List ℕ) → AreLanes files numbers.set.out name lanes (records name)

  -- and these records stand for a state
  pub record SlotStands (numbers : SlotNumbers) (flights : List Flying) (lanes : List D) (records : Records) (state : State) : Type 0 where
    pub have : LanesHave numbers lanes records
    pub stands : Stands (quorum_of numbers) numbers.set.drives (last_of numbers) flights records state
