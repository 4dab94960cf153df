-- What a look says of the records that the lanes keep.
use Rattle.std.specs.Prelude.{◌≡◌, ◌⊎◌, ⊤, ℕ, ◌<◌, List, Contains, Option, Some, None, length, map}
use Rattle.std.specs.Int.{IsBitSet}
use Rattle.register_file.specs.declared.record.RegFile.{RegFile}
use Rattle.register_file.specs.declared.record.Next.{Next}
use Rattle.stamp_id.specs.Rank.{change_of}
use Rattle.vote_core.specs.Lane.{Lane, HasNext, lane_at, Next as LaneNext}
use Rattle.vote_core.specs.Calm.{IsCalm}
use Rattle.vote_core.specs.Loops.{Stands, mended}
use Rattle.vote_core.specs.Shown.{FindsPending, ShowLanes}
use Rattle.vote_core.specs.Sound.{HoldsValue}
use Rattle.register_core.specs.Found.{found_at}
use Rattle.register_core.specs.Records.{base_of, lane_of, next_of, row_of}
use Rattle.register_core.specs.declared.looks.Looked.{Looked}

-- each file that was read is its lane's record, so the rows show the lanes
pub record AreSeen (found : List (Option RegFile)) (lanes : List Lane) : Type 0 where
  pub counted : length found ≡ length lanes
  pub each : (k : ℕ) (file : RegFile) → k < length lanes → found_at found k ≡ Some file → lane_at lanes k ≡ lane_of file
  pub rows : ShowLanes (map row_of found) lanes

-- what is pending, if anything, is on its way on some lane
abbrev pub IsOnItsWay : Option Next → List Lane → Type 0
IsOnItsWay None lanes = ⊤
IsOnItsWay (Some next) lanes = (lane : Lane) × Contains lanes lane × HasNext lane (next_of next)

-- what a look found on lanes that hold a value: the value, or a pending change that is the value's or may become the value
abbrev pub FindsValueOr : Option Next → Looked → List Lane → ℕ → List ℕ → Type 0
FindsValueOr None looked lanes c content =
    (change_of looked.base.change ≡ c) × (looked.base.content ≡ content) × Stands lanes (base_of looked.base)
FindsValueOr (Some next) looked lanes c content = (base_lane : ℕ) × (lane : ℕ)
    × FindsPending looked.rows.items lanes c base_lane lane (next_of next) × ((lane_at lanes base_lane).base ≡ base_of looked.base)

-- what a look says of lanes that hold a value; on a calm register nothing is pending
pub record LookFinds (w : ℕ) (looked : Looked) (lanes : List Lane) (c : ℕ) (content : List ℕ) : Type 0 where
  pub finds : FindsValueOr looked.pending looked lanes c content
  pub calm : IsCalm w lanes c → looked.pending ≡ None

-- what a look that could conclude says of the lanes, whatever records they keep: good rows are theirs, the base stands on one of them, what is pending
-- is on its way on one, those that are clean have the base alone; and where they hold a value, what it found of that
pub record LookedSeen (w : ℕ) (found : List (Option RegFile)) (looked : Looked) (lanes : List Lane) : Type 0 where
  pub seen : AreSeen found lanes
  pub rows : ShowLanes looked.rows.items lanes
  pub base : Stands lanes (base_of looked.base)
  pub next : IsOnItsWay looked.pending lanes
  pub clean : (k : ℕ) → k < length lanes → IsBitSet looked.clean k → lane_at lanes k ≡ mended (base_of looked.base)
  pub value : (last c : ℕ) (content : List ℕ) → HoldsValue w last lanes c content → LookFinds w looked lanes c content

-- a lane's record, base or next, has this content
abbrev pub KeepsContent : Lane → List ℕ → Type 0
KeepsContent lane content = (lane.base.content ≡ content) ⊎ ((next : LaneNext) × HasNext lane next × (next.content ≡ content))

-- what a look that refused a content says of the lanes: one of them keeps that content
pub record RefusedSeen (found : List (Option RegFile)) (content : List ℕ) (lanes : List Lane) : Type 0 where
  pub seen : AreSeen found lanes
  pub lane : Lane
  pub there : Contains lanes lane
  pub keeps : KeepsContent lane content

-- what a look that found nothing decided says of the lanes: its change is on its way on one of them; where they hold a value it is the value's or may
-- become the value, and the register isn't calm
pub record UndecidedSeen (w : ℕ) (found : List (Option RegFile)) (base_lane lane : ℕ) (next : Next) (lanes : List Lane) : Type 0 where
  pub seen : AreSeen found lanes
  pub inside : lane < length lanes
  pub on_its_way : HasNext (lane_at lanes lane) (next_of next)
  pub finds : (last c : ℕ) (content : List ℕ) → HoldsValue w last lanes c content → FindsPending (map row_of found) lanes c base_lane lane (next_of next)
  pub stirred : (last c : ℕ) (content : List ℕ) → HoldsValue w last lanes c content → ¬ IsCalm w lanes c
