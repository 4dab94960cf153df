-- What proposing, marking and mending keep of a register: its lanes stay sound, and its value stays or becomes the change's content.
use Rattle.std.specs.Prelude.{◌≡◌, ◌≢◌, ◌⊎◌, ℕ, ◌<◌, ◌≤◌, List, map, count_by, Result, Ok, Err}
use Rattle.call_types.specs.Good.{is_good}
use Rattle.call_types.specs.declared.why.Why.{Why}
use Rattle.vote_core.specs.Row.{is_good as is_good_row}
use Rattle.vote_core.specs.Lane.{Lane, lane_at, has_base_of, Base as LaneBase, Next as LaneNext}
use Rattle.vote_core.specs.Sound.{HoldsValue, LanesAreDrawn}
use Rattle.vote_core.specs.Calm.{IsCalm}
use Rattle.vote_core.specs.Shown.{FindsPending}
use Rattle.vote_core.specs.Loops.{AtLeastHave, prepared, marked, Stands, IsOwn, IsAgain, IsPrepared}
use Rattle.vote_core.specs.declared.row.Row.{Row}

-- a pending change may be proposed again on the lanes that the look found good
pub record MayProposeAgain (later : ℕ) (lanes : List Lane) (c : ℕ) (letters : List Why) (base : LaneBase) (next : LaneNext) : Type 0 where
  pub rows : List Row
  pub base_lane : ℕ
  pub lane : ℕ
  pub found : LaneNext
  pub finds : FindsPending rows lanes c base_lane lane found
  pub base_is : (lane_at lanes base_lane).base ≡ base
  pub again : IsAgain later lanes base found next
  pub on : map is_good letters ≡ map is_good_row rows

-- a change of one's own may be proposed over the value
pub record MayProposeOwn (later : ℕ) (lanes : List Lane) (c : ℕ) (base : LaneBase) (next : LaneNext) : Type 0 where
  pub stands : Stands lanes base
  pub value : base.change ≡ c
  pub own : IsOwn later lanes c next

-- a change may be proposed on lanes that hold a value
pub record MayPropose (w last later : ℕ) (lanes : List Lane) (c : ℕ) (content : List ℕ) (letters : List Why) (base : LaneBase) (next : LaneNext) : Type 0 where
  pub rises : last ≤ later
  pub holds : HoldsValue w last lanes c content
  pub may : MayProposeOwn later lanes c base next ⊎ MayProposeAgain later lanes c letters base next

-- the numbers of a change are lawful over a base, also on lanes that are not sound
pub record MayWrite (last later : ℕ) (lanes : List Lane) (base : LaneBase) (next : LaneNext) : Type 0 where
  pub rises : last ≤ later
  pub drawn : LanesAreDrawn last lanes
  pub stands : Stands lanes base
  pub parent : next.parent ≡ base.change
  pub above : base.ballot < next.ballot
  pub own : next.change ≤ next.ballot
  pub within : next.ballot ≤ later

-- the lanes after a prepare still hold the value
pub record StaysValue (w later c : ℕ) (content : List ℕ) (base : LaneBase) (next : LaneNext) (after : List Lane) : Type 0 where
  pub holds : HoldsValue w later after c content
  pub ready : IsPrepared after c base next

-- what a prepare leaves: the value, and lawful numbers
pub record PrepareLeaves (w : ℕ) (letters : List Why) (base : LaneBase) (next : LaneNext) (lanes after : List Lane) : Type 0 where
  pub value : (last later c : ℕ) (content : List ℕ) → MayPropose w last later lanes c content letters base next → StaysValue w later c content base next after
  pub numbers : (last later : ℕ) → MayWrite last later lanes base next → LanesAreDrawn later after

-- at least w lanes took a prepare, and hold a value
pub record IsProposed (w last : ℕ) (lanes : List Lane) (c : ℕ) (content : List ℕ) (whys : List Why) (base : LaneBase) (next : LaneNext) : Type 0 where
  pub holds : HoldsValue w last lanes c content
  pub ready : IsPrepared lanes c base next
  pub took : AtLeastHave w (map is_good whys) (prepared base next) lanes

-- the change's content is the value: its base stands, at least w lanes have a base that carries it, and where it is another change than the value's
-- was, the register is calm
pub record IsMarked (w last c : ℕ) (next : LaneNext) (after : List Lane) : Type 0 where
  pub holds : HoldsValue w last after next.change next.content
  pub stands : Stands after (marked next).base
  pub held : w ≤ count_by (has_base_of next.change) after
  pub calm : next.change ≢ c → IsCalm w after next.change

-- what a mark leaves by its result: the change's content is the value where it succeeded, and else the value or the change's content
abbrev pub MarkMoves : {T E : Type 0} → Result T E → ℕ → ℕ → ℕ → List ℕ → LaneNext → List Lane → Type 0
MarkMoves (Ok _) w last c content next after = IsMarked w last c next after
MarkMoves (Err _) w last c content next after = HoldsValue w last after c content ⊎ HoldsValue w last after next.change next.content

-- what a mend leaves: the value, and calm where it was calm
pub record MendLeaves (w : ℕ) (base : LaneBase) (lanes after : List Lane) : Type 0 where
  pub value : (last c : ℕ) (content : List ℕ) → HoldsValue w last lanes c content → Stands lanes base → base.change ≡ c
      → HoldsValue w last after c content × (IsCalm w lanes c → IsCalm w after c)
  pub numbers : (last : ℕ) → LanesAreDrawn last lanes → Stands lanes base → LanesAreDrawn last after
