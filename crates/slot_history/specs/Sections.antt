-- What one section of a slot does to the state that its lanes stand for.
use Rattle.std.specs.Prelude.{◌≡◌, ◌⊎◌, ℕ, List, Contains}
use Rattle.stamp_id.specs.Rank.{change_of}
use Rattle.audit_trail.specs.declared.entry.Deed.{Deed}
use Rattle.audit_trail.specs.declared.entry.Deed.TheVariants.{Done, Refused, Kept, Opened}
use Rattle.audit_trail.specs.declared.entry.Entry.{Entry}
use Rattle.vote_core.specs.Lane.{HasNext, Lane, Next}
use Rattle.vote_core.specs.Sound.{IsLive}
use Rattle.slot_history.specs.Moving.{Moves}
use Rattle.slot_history.specs.Standing.{Records, WaitsAs}
use Rattle.slot_history.specs.State.{IsHeld, State, Waiting}
use Rattle.slot_history.specs.Waiting.{AreLate, IsLate}

-- a change is on its way: a next on some lane of a name that is held carries it, and may become the value
pub record IsOnItsWay (records : Records) (state : State) (p : Waiting) : Type 0 where
  pub held : IsHeld state.registers p.name
  pub lane : Lane
  pub there : Contains (records p.name) lane
  pub next : Next
  pub has : HasNext lane next
  pub live : IsLive (records p.name) (state.registers p.name).change lane next
  pub waits : WaitsAs state p.name next p

-- a change is the one that a deed was refused
abbrev pub IsRefusedIn : Deed → Waiting → Type 0
IsRefusedIn (Done call reply) p = ⊥
IsRefusedIn (Refused change call) p = p.change ≡ change_of change
IsRefusedIn Kept p = ⊥
IsRefusedIn (Opened term) p = ⊥

-- after its deed a section leaves the state, or the change that it was refused takes effect all the same
abbrev pub OwnStep : Deed → State → State → Type 0
OwnStep deed after new = (new ≡ after) ⊎ ((p : Waiting) × IsRefusedIn deed p × IsLate p after new)

-- a section moves the state by its entry: late steps of what was on its way when it began, the entry's deed, and perhaps the refused change itself.
-- What is on its way afterwards was so before, or was refused
pub record SectionMoves (slot : ℕ) (entry : Entry) (records_old : Records) (old : State) (records_new : Records) (new : State) : Type 0 where
  pub lates : List Waiting
  pub before : State
  pub late_steps : AreLate lates old before
  pub carried : (p : Waiting) → Contains lates p → IsOnItsWay records_old old p
  pub after : State
  pub moves : Moves slot entry before after
  pub own : OwnStep entry.deed after new
  pub rests : (p : Waiting) → IsOnItsWay records_new new p → IsOnItsWay records_old old p ⊎ IsRefusedIn entry.deed p
