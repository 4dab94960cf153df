-- One section of writes on a register, from a look to its last write, and what it leaves.
use Rattle.std.specs.Prelude.{◌≡◌, ◌⊎◌, ℕ, Bool, List, map}
use Rattle.vote_core.specs.Row.{is_good}
use Rattle.vote_core.specs.Lane.{Base, Next, Lane, HasNext, lane_at}
use Rattle.vote_core.specs.Sound.{HoldsValue}
use Rattle.vote_core.specs.History.{IsDead}
use Rattle.vote_core.specs.Shown.{ShowLanes}
use Rattle.vote_core.specs.Loops.{Leaves, LeavesAt, AtLeastHave, Stands, IsOwn, IsAgain, prepared, marked, mended}
use Rattle.vote_core.specs.Verdict.{VerdictRule}
use Rattle.vote_core.specs.declared.row.Row.{Row}
use Rattle.vote_core.specs.declared.verdict.Verdict.TheVariants.{Pending}

-- a change of one's own is prepared over a base of the value's change c
pub record PreparesOwn (later : ℕ) (lanes : List Lane) (c : ℕ) (new : List Lane) (base : Base) (next : Next) : Type 0 where
  pub stands : Stands lanes base
  pub value : base.change ≡ c
  pub own : IsOwn later lanes c next
  pub leaves : Leaves (prepared base next) lanes new

-- a change that a look found pending is prepared again, on lanes whose row was good
pub record PreparesPending (w d later : ℕ) (lanes new : List Lane) (base : Base) (next : Next) : Type 0 where
  pub rows : List Row
  pub shown : ShowLanes rows lanes
  pub base_lane : ℕ
  pub lane : ℕ
  pub k : ℕ
  pub u : ℕ
  pub verdict : VerdictRule w d rows (Pending base_lane lane k u)
  pub base_is : (lane_at lanes base_lane).base ≡ base
  pub found : Next
  pub found_is : HasNext (lane_at lanes lane) found
  pub again : IsAgain later lanes base found next
  pub leaves : LeavesAt (map is_good rows) (prepared base next) lanes new

-- either of them
abbrev pub Prepares : ℕ → ℕ → ℕ → List Lane → ℕ → List Lane → Base → Next → Type 0
Prepares w d later lanes c new base next = PreparesOwn later lanes c new base next ⊎ PreparesPending w d later lanes new base next

-- what at least w lanes took is marked on lanes that took it
pub record Marks (w : ℕ) (lanes new : List Lane) (base : Base) (next : Next) : Type 0 where
  pub took : List Bool
  pub taken : AtLeastHave w took (prepared base next) lanes
  pub leaves : LeavesAt took (marked next) lanes new

-- a section prepares and is refused, or prepares and marks, or mends
abbrev pub Section : ℕ → ℕ → ℕ → List Lane → ℕ → List Lane → Base → Next → Type 0
Section w d later lanes c new base next = Prepares w d later lanes c new base next
    ⊎ (((mid : List Lane) × Prepares w d later lanes c mid base next × Marks w mid new base next)
    ⊎ (Stands lanes base × (base.change ≡ c) × Leaves (mended base) lanes new))

-- the value stays, or is the section's change and the old value's change is dead; and a dead change stays dead, unless the section proposes it as its own
pub record SectionLeaves (w later : ℕ) (lanes : List Lane) (c : ℕ) (content : List ℕ) (new : List Lane) (next : Next) : Type 0 where
  pub now : ℕ
  pub shows : List ℕ
  pub holds : HoldsValue w later new now shows
  pub moves : ((now ≡ c) × (shows ≡ content)) ⊎ ((now ≡ next.change) × (shows ≡ next.content) × IsDead new now c)
  pub dead : (gone : ℕ) → IsDead lanes c gone → IsDead new now gone ⊎ (IsOwn later lanes c next × (next.change ≡ gone))
