-- When the lanes of a register are sound, and which value they hold, where w lanes must take a write and `last` is the last number drawn.
use Rattle.std.specs.Prelude.{◌≡◌, ◌≢◌, ◌⊎◌, ℕ, ◌<◌, ◌≤◌, List, Contains, count_by}
use Rattle.vote_core.specs.Lane.{Next, Lane, HasNext, HasRecord, backs}

-- a lane whose base no other base is above
pub record IsGreatest (lanes : List Lane) (lane : Lane) : Type 0 where
  pub there : Contains lanes lane
  pub greatest : (other : Lane) → Contains lanes other → other.base.ballot ≤ lane.base.ballot

-- c is the change of the value, which is the greatest base
pub record IsValueChange (lanes : List Lane) (c : ℕ) : Type 0 where
  pub lane : Lane
  pub top : IsGreatest lanes lane
  pub carries : lane.base.change ≡ c

-- two records that carry one change have equal contents, and two nexts that carry one change add the same data
pub record RecordsAgree (lanes : List Lane) : Type 0 where
  pub contents : (a b : Lane) (c : ℕ) (x y : List ℕ) → Contains lanes a → Contains lanes b → HasRecord a c x → HasRecord b c y → x ≡ y
  pub data_added : (a b : Lane) (m n : Next) → Contains lanes a → Contains lanes b → HasNext a m → HasNext b n → m.change ≡ n.change
      → m.adds ≡ n.adds

-- for each base that carries c, at least w lanes have a base that carries c, or a next that carries c with a ballot not below that base's
abbrev pub BasesAreBacked : ℕ → List Lane → ℕ → Type 0
BasesAreBacked w lanes c = (a : Lane) → Contains lanes a → a.base.change ≡ c → w ≤ count_by (backs c a.base.ballot) lanes

-- each base that doesn't carry c is below each base that carries c
abbrev pub OthersAreBelow : List Lane → ℕ → Type 0
OthersAreBelow lanes c = (a b : Lane) → Contains lanes a → Contains lanes b → a.base.change ≡ c → b.base.change ≢ c → b.base.ballot < a.base.ballot

-- a next has c as its parent, in a file whose base carries c, while no base carries the next's change: it may become the value
pub record IsLive (lanes : List Lane) (c : ℕ) (lane : Lane) (next : Next) : Type 0 where
  pub parent : next.parent ≡ c
  pub base : lane.base.change ≡ c
  pub unmarked : (other : Lane) → Contains lanes other → other.base.change ≢ next.change

-- a ballot is below each base that carries c
abbrev pub IsBelowValue : List Lane → ℕ → ℕ → Type 0
IsBelowValue lanes c ballot = (other : Lane) → Contains lanes other → other.base.change ≡ c → ballot < other.base.ballot

-- a next carries c, or may become the value, or is below the value
abbrev pub IsAccounted : List Lane → ℕ → Lane → Next → Type 0
IsAccounted lanes c lane next = (next.change ≡ c) ⊎ (IsLive lanes c lane next ⊎ IsBelowValue lanes c next.ballot)

-- each next is accounted for
abbrev pub NextsAreAccounted : List Lane → ℕ → Type 0
NextsAreAccounted lanes c = (a : Lane) (next : Next) → Contains lanes a → HasNext a next → IsAccounted lanes c a next

-- the numbers of one lane's file: a next's parent is its base's change and its ballot is above its base's, no change is above its own ballot, and
-- every ballot was drawn
pub record IsDrawn (last : ℕ) (lane : Lane) : Type 0 where
  pub parent : (next : Next) → HasNext lane next → next.parent ≡ lane.base.change
  pub above : (next : Next) → HasNext lane next → lane.base.ballot < next.ballot
  pub base_own : lane.base.change ≤ lane.base.ballot
  pub next_own : (next : Next) → HasNext lane next → next.change ≤ next.ballot
  pub base_drawn : lane.base.ballot ≤ last
  pub next_drawn : (next : Next) → HasNext lane next → next.ballot ≤ last

-- the numbers of each lane's file are lawful
abbrev pub LanesAreDrawn : ℕ → List Lane → Type 0
LanesAreDrawn last lanes = (a : Lane) → Contains lanes a → IsDrawn last a

-- the lanes are sound, and c is the change of their value. Each single write of a prepare, a mark or a mend keeps this, whether it succeeds or fails
pub record SoundLanes (w last : ℕ) (lanes : List Lane) (c : ℕ) : Type 0 where
  pub value : IsValueChange lanes c
  pub agree : RecordsAgree lanes
  pub backed : BasesAreBacked w lanes c
  pub below : OthersAreBelow lanes c
  pub accounted : NextsAreAccounted lanes c
  pub drawn : LanesAreDrawn last lanes

-- the lanes are sound, and their value is this content, made by the change c
pub record HoldsValue (w last : ℕ) (lanes : List Lane) (c : ℕ) (content : List ℕ) : Type 0 where
  pub sound : SoundLanes w last lanes c
  pub contents : (a : Lane) → Contains lanes a → a.base.change ≡ c → a.base.content ≡ content
