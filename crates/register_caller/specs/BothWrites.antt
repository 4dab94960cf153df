-- What a caller of the register concludes from its contracts.
use Rattle.std.specs.Prelude.{◌≡◌, ◌≢◌, ◌⊎◌, ℕ, List, Contains, Result, string_bytes}
use Rattle.std.specs.Int.{IsBitSet}
use Rattle.call_types.specs.declared.why.Why.{Why}
use Rattle.drive_base.specs.declared.drive.Drive.{Ghosts}
use Rattle.register_file.specs.declared.record.Base.{Base}
use Rattle.register_file.specs.declared.record.Next.{Next}
use Rattle.vote_core.specs.Lane.{Lane, HasNext, lane_at, Base as LaneBase, Next as LaneNext}
use Rattle.vote_core.specs.Loops.{IsFreshChange}
use Rattle.vote_core.specs.Sound.{HoldsValue, IsLive}
use Rattle.register_core.specs.Drafts.{IsDraftOf}
use Rattle.register_core.specs.LaneMoves.{MarkMoves, MayPropose}
use Rattle.register_core.specs.OnLanes.{AllTell, AreLanes, AreUnused}
use Rattle.register_core.specs.Proposals.{quorum_of}
use Rattle.register_core.specs.Records.{base_of, next_of}
use Rattle.register_core.specs.declared.drafts.Draft.{Draft}
use Rattle.register_caller.specs.WrittenLanes.{LeavesByResult, written_of}

-- a change that was on its way before, and might become the value, has become it
pub record IsLateStep (lanes : List Lane) (c now : ℕ) (shows : List ℕ) : Type 0 where
  pub lane : Lane
  pub there : Contains lanes lane
  pub next : LaneNext
  pub on_its_way : HasNext lane next
  pub live : IsLive lanes c lane next
  pub change_is : now ≡ next.change
  pub content_is : shows ≡ next.content

-- it could so before, or it is the change that was written
abbrev pub LiveIsLateOr : List Lane → ℕ → List Lane → ℕ → ℕ → List ℕ → Type 0
LiveIsLateOr lanes c after now change content = (a : Lane) (next : LaneNext) → Contains after a → HasNext a next → IsLive after now a next
    → IsLateStep lanes c next.change next.content ⊎ ((next.change ≡ change) × (next.content ≡ content))

-- what both writes of a change leave of lanes on which it may be proposed: the value moves by the result, what may become the value then could so before
-- or is this change, a change that is fresh stays so, and the layer above has all it needs in one relation
pub record BothLeave {T E : Type 0} (w : ℕ) (letters : List Why) (base : LaneBase) (next : LaneNext) (result : Result T E) (lanes after : List Lane) : Type 0 where
  pub value : (last later c : ℕ) (content : List ℕ) → MayPropose w last later lanes c content letters base next → MarkMoves result w later c content next after
  pub live : (last later c now : ℕ) (content shows : List ℕ) → MayPropose w last later lanes c content letters base next → HoldsValue w later after now shows
      → LiveIsLateOr lanes c after now next.change next.content
  pub leaving : (last later c : ℕ) (content : List ℕ) → MayPropose w last later lanes c content letters base next
      → LeavesByResult w later result (written_of next) lanes c content after
  pub fresh : (other : ℕ) → IsFreshChange lanes other → base.change ≢ other → next.change ≢ other → IsFreshChange after other

-- the value is as it was, or a late step was made
abbrev pub StaysOrSteps : List Lane → ℕ → List ℕ → ℕ → List ℕ → Type 0
StaysOrSteps lanes c content now shows = ((now ≡ c) × (shows ≡ content)) ⊎ IsLateStep lanes c now shows

module _ {D : Type 0} (ghosts : Ghosts D) where
  -- the lanes after both writes of a change; whatever a lane that is out has, it keeps
  pub record WroteBoth {T E : Type 0} (draft : Draft) (out term to : ℕ) (base : Base) (next : Next) (result : Result T E) (new : List D) (lanes : List Lane) : Type 0 where
    pub after : List Lane
    pub tell : AllTell ghosts.tells out new
    pub unused : AreUnused ghosts.files out term to new
    pub are : AreLanes ghosts.files out (string_bytes draft.name) new after
    pub stay : (k : ℕ) → IsBitSet out k → lane_at after k ≡ lane_at lanes k
    pub leaves : BothLeave (quorum_of draft) draft.letters (base_of base) (next_of next) result lanes after

  -- so it is where those in use tell what they hold, have no loose file of a later name, and keep these records
  abbrev pub KeepsBoth : {T E : Type 0} → Draft → ℕ → ℕ → ℕ → ℕ → Result T E → List D → List D → Type 0
  KeepsBoth draft out term from to result old new = (base : Base) (next : Next) (recorded : List Lane) → IsDraftOf draft base next
      → AllTell ghosts.tells out old → AreUnused ghosts.files out term from old → AreLanes ghosts.files out (string_bytes draft.name) old recorded
      → WroteBoth draft out term to base next result new recorded
