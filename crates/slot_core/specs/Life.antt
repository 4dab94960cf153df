-- What the lanes of a slot stand for in its next life, under a later term.
use Rattle.std.specs.Prelude.{◌≡◌, ℕ, ◌<◌, ◌≤◌, ◌^◌, Bool, IsTrue, List, [], None, length, slice_index_or}
use Rattle.std.specs.Int.{IsBitSet}
use Rattle.drive_base.specs.Files.{Files}
use Rattle.drive_base.specs.declared.plan.SetPlan.{SetPlan}
use Rattle.register_core.specs.Loose.{loose_name}
use Rattle.register_core.specs.Records.{HasLane, IsHonest}
use Rattle.vote_core.specs.Lane.{lane_at}
use Rattle.slot_history.specs.Standing.{Flying, Records, Stands}
use Rattle.slot_history.specs.State.{State}
use Rattle.slot_core.specs.Opening.{opened_numbers}
use Rattle.slot_core.specs.Standing.{LanesHave, SlotStands}
use Rattle.slot_core.specs.Views.{SlotNumbers, last_of, quorum_of}

-- a set has as many drives and as much parity as before, and each drive that was out is out
pub record IsAsBefore (before set : SetPlan) : Type 0 where
  pub drives : set.drives ≡ before.drives
  pub parity : set.parity ≡ before.parity
  pub out : (k : ℕ) → IsBitSet before.out k → IsBitSet set.out k

module _ {D : Type 0} (tells : D → Bool) (files : D → Files) where
  -- what `OpenedSlotStands` asks of lanes: they have the records, and these stand for the state, with no put under way and no number drawn
  abbrev pub MayOpen : SetPlan → ℕ → ℕ → List D → Records → State → Type 0
  MayOpen set index term lanes records state = LanesHave tells files (opened_numbers set index term) lanes records
      × Stands (quorum_of (opened_numbers set index term)) set.drives (last_of (opened_numbers set index term)) [] records state

  -- a lane that was out may come back: it tells what it keeps, its damage is honest, no loose name of this term or a later one is in use on it, and it
  -- keeps the records that stand in its place, which are those that it kept last
  pub record MayComeBack (term k : ℕ) (records : Records) (lane : D) : Type 0 where
    pub tells_it : IsTrue (tells lane)
    pub unused : (later number : ℕ) → term ≤ later → later < 2 ^ 48 → number < 2 ^ 64 → (files lane).loose (loose_name later number) ≡ None
    pub honest : (name : List ℕ) → IsHonest ((files lane).kept name) ((files lane).shown name)
    pub has : (name : List ℕ) → HasLane ((files lane).kept name) (lane_at (records name) k)

  -- so may each lane that was out and isn't any more
  abbrev pub ComeBack : SetPlan → SetPlan → ℕ → List D → Records → Type 0
  ComeBack before set term lanes records = (k : ℕ) (d : D) → k < length lanes → IsBitSet before.out k → (IsBitSet set.out k → ⊥)
      → MayComeBack term k records (slice_index_or lanes k d)

  -- where the lanes of a slot stand for a state, a slot that is opened over them under a later term stands for it. What was under way is forgotten
  abbrev pub LifeGoesOn : Type 0
  LifeGoesOn = (old : SlotNumbers) (flights : List Flying) (lanes : List D) (records : Records) (state : State) (set : SetPlan) (term : ℕ)
      → SlotStands tells files old flights lanes records state → old.seq < 2 ^ 64 → IsAsBefore old.set set → old.term < term → term < 2 ^ 48
      → MayOpen set old.index term lanes records state

  -- so does one of which lanes that were out are in again
  abbrev pub LanesComeBack : Type 0
  LanesComeBack = (old : SlotNumbers) (flights : List Flying) (lanes : List D) (records : Records) (state : State) (set : SetPlan) (term : ℕ)
      → SlotStands tells files old flights lanes records state → old.seq < 2 ^ 64 → set.drives ≡ old.set.drives → set.parity ≡ old.set.parity
      → ComeBack old.set set term lanes records → old.term < term → term < 2 ^ 48
      → MayOpen set old.index term lanes records state
