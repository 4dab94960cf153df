-- What a lane keeps of one register. Ballots and changes are numbers: the ranks of their ballots.
use Rattle.std.specs.Prelude.{◌≡◌, ◌⊎◌, ℕ, Bool, false, ◌==◌, ◌&&◌, ◌||◌, nat_le, List, [], Option, None, Some, slice_index_or}

-- the data that a change adds: its id and its print
pub record Added : Type 0 where
  pub id : List ℕ
  pub print : List ℕ

-- a content, the change that made it, and the ballot under which it was written
pub record Base : Type 0 where
  pub ballot : ℕ
  pub change : ℕ
  pub content : List ℕ

-- a content on its way: its change, the ballot under which it was proposed, the change that it replaces, and the data that it adds
pub record Next : Type 0 where
  pub ballot : ℕ
  pub change : ℕ
  pub parent : ℕ
  pub adds : Option Added
  pub content : List ℕ

-- the record of one lane
pub record Lane : Type 0 where
  pub base : Base
  pub next : Option Next

-- the base of a lane that keeps no file of the register
abbrev pub blank_base : Base
blank_base = record { ballot = 0; change = 0; content = [] }

-- the record of such a lane
abbrev pub blank_lane : Lane
blank_lane = record { base = blank_base; next = None }

-- the record of the lane of this index
abbrev pub lane_at : List Lane → ℕ → Lane
lane_at lanes k = slice_index_or lanes k blank_lane

-- the lane has this next
abbrev pub HasNext : Lane → Next → Type 0
HasNext lane next = lane.next ≡ Some next

-- the lane has a record, base or next, that carries this change and has this content
abbrev pub HasRecord : Lane → ℕ → List ℕ → Type 0
HasRecord lane c content = ((lane.base.change ≡ c) × (lane.base.content ≡ content))
    ⊎ ((next : Next) × HasNext lane next × (next.change ≡ c) × (next.content ≡ content))

-- the lane's base carries c
abbrev pub has_base_of : ℕ → Lane → Bool
has_base_of c lane = lane.base.change == c

-- what is on its way carries c under a ballot not below this one
abbrev pub is_next_of : ℕ → ℕ → Option Next → Bool
is_next_of c ballot None = false
is_next_of c ballot (Some next) = (next.change == c) && nat_le ballot next.ballot

-- the lane has a base that carries c, or a next that carries c with a ballot not below this one
abbrev pub backs : ℕ → ℕ → Lane → Bool
backs c ballot lane = has_base_of c lane || is_next_of c ballot lane.next
