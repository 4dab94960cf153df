-- Rows that show the records of lanes: a bad row shows nothing, and a good row is its lane's record.
use Rattle.std.specs.Prelude.{◌≡◌, ◌+◌, ◌≢◌, ◌⊎◌, ⊤, ℕ, ◌<◌, true, List, Option, None, Some, length}
use Rattle.std.specs.List.{AllZip}
use Rattle.std.specs.Option.{is_some}
use Rattle.stamp_id.specs.Rank.{rank_of, change_of}
use Rattle.vote_core.specs.Row.{is_good}
use Rattle.vote_core.specs.Lane.{Next, Lane, HasNext, lane_at}
use Rattle.vote_core.specs.Sound.{IsLive}
use Rattle.vote_core.specs.Verdict.{row_at}
use Rattle.vote_core.specs.declared.row.Row.{Row}
use Rattle.vote_core.specs.declared.row.Row.TheVariants.{Bad, Good}
use Rattle.vote_core.specs.declared.row.NextRow.{NextRow}

-- a row has the ballot and the change of what is on its way, and tells whether it adds data
pub record IsRowOf (row : NextRow) (next : Next) : Type 0 where
  pub ballot : rank_of row.ballot ≡ next.ballot
  pub change : change_of row.change ≡ next.change
  pub adds : row.adds ≡ is_some next.adds

-- what is on its way on a row is what is on its way on a lane
abbrev pub ShowsNext : Option NextRow → Option Next → Type 0
ShowsNext None None = ⊤
ShowsNext None (Some next) = ⊥
ShowsNext (Some row) None = ⊥
ShowsNext (Some row) (Some next) = IsRowOf row next

-- a good row is its lane's record
abbrev pub ShowsLane : Row → Lane → Type 0
ShowsLane Bad lane = ⊤
ShowsLane (Good base change next) lane = (rank_of base ≡ lane.base.ballot) × (change_of change ≡ lane.base.change) × ShowsNext next lane.next

-- each row shows the lane of its index
abbrev pub ShowLanes : List Row → List Lane → Type 0
ShowLanes rows lanes = AllZip ShowsLane rows lanes

-- of n lanes any w have one in common with any d
abbrev pub Overlap : ℕ → ℕ → ℕ → Type 0
Overlap n w d = n < w + d

-- the lane of this index was read
pub record IsRead (rows : List Row) (lanes : List Lane) (k : ℕ) : Type 0 where
  pub there : k < length lanes
  pub good : is_good (row_at rows k) ≡ true

-- no lane that was read has a base that carries c
abbrev pub NoneReads : List Row → List Lane → ℕ → Type 0
NoneReads rows lanes c = (k : ℕ) → IsRead rows lanes k → (lane_at lanes k).base.change ≢ c

-- the value's own change was found on its way: no lane that was read has it as its base
pub record FindsValue (rows : List Row) (lanes : List Lane) (c : ℕ) (next : Next) : Type 0 where
  pub same : next.change ≡ c
  pub hidden : NoneReads rows lanes c

-- another change was found on its way over the value, and may become the value
pub record FindsOther (lanes : List Lane) (c : ℕ) (base_lane lane : Lane) (next : Next) : Type 0 where
  pub value : base_lane.base.change ≡ c
  pub live : IsLive lanes c lane next

-- a look read a base on one lane and a next on another, and the next is the value's change, or may become the value
pub record FindsPending (rows : List Row) (lanes : List Lane) (c : ℕ) (base_lane lane : ℕ) (next : Next) : Type 0 where
  pub base_read : IsRead rows lanes base_lane
  pub next_read : IsRead rows lanes lane
  pub next_is : HasNext (lane_at lanes lane) next
  pub found : FindsValue rows lanes c next ⊎ FindsOther lanes c (lane_at lanes base_lane) (lane_at lanes lane) next

-- a look read the value on a lane
pub record FindsSettled (rows : List Row) (lanes : List Lane) (c : ℕ) (content : List ℕ) (lane : ℕ) : Type 0 where
  pub read : IsRead rows lanes lane
  pub change_is : (lane_at lanes lane).base.change ≡ c
  pub content_is : (lane_at lanes lane).base.content ≡ content
