-- Which registers of a slot are calm after a section.
use Rattle.std.specs.Prelude.{◌≡◌, ℕ, List, Option, Some, None, MatchOption}
use Rattle.stamp_id.specs.declared.stamp.ChangeId.{ChangeId}
use Rattle.audit_trail.specs.declared.entry.Deed.{Deed}
use Rattle.audit_trail.specs.declared.entry.Deed.TheVariants.{Done, Refused, Kept, Opened}
use Rattle.audit_trail.specs.declared.entry.Entry.{Entry}
use Rattle.vote_core.specs.Calm.{IsCalm}
use Rattle.slot_history.specs.Moving.{drawn_by}
use Rattle.slot_history.specs.Standing.{Records}
use Rattle.slot_history.specs.State.{State}

-- the lanes of a name's register are calm, where w of them must take a write
abbrev pub IsCalmUnder : ℕ → Records → State → List ℕ → Type 0
IsCalmUnder w records state name = IsCalm w (records name) (state.registers name).change

-- a deed made this change
abbrev pub MadeIn : ChangeId → Deed → Type 0
MadeIn change (Done call reply) = drawn_by call ≡ Some change
MadeIn change (Refused other call) = ⊥
MadeIn change Kept = ⊥
MadeIn change (Opened term) = ⊥

-- an entry says that this change of this name's register was made
abbrev pub HasMade : Option Entry → List ℕ → ChangeId → Type 0
HasMade entry name change = MatchOption entry ⊥ (λ told. (told.name ≡ name) × MadeIn change told.deed)

-- a deed was begun and refused: its change may have taken effect, or may take effect later
abbrev pub IsBegun : Deed → Type 0
IsBegun (Done call reply) = ⊥
IsBegun (Refused change call) = Unit {0}
IsBegun Kept = ⊥
IsBegun (Opened term) = ⊥

-- an entry says so of a change of this name's register
abbrev pub HasBegun : Option Entry → List ℕ → Type 0
HasBegun entry name = MatchOption entry ⊥ (λ told. (told.name ≡ name) × IsBegun told.deed)

-- a deed only looked at its register: it drew no change
abbrev pub OnlyLooked : Deed → Type 0
OnlyLooked (Done call reply) = drawn_by call ≡ None
OnlyLooked (Refused change call) = ⊥
OnlyLooked Kept = Unit {0}
OnlyLooked (Opened term) = Unit {0}

-- a section only looked at the register of this name, or was about another, by its entry
abbrev pub LooksAtMost : Option Entry → List ℕ → Type 0
LooksAtMost entry name = MatchOption entry (Unit {0}) (λ told. told.name ≡ name → OnlyLooked told.deed)

-- what stood under a name stands there still, in the same records
pub record StaysUnder (records : Records) (state : State) (after : Records) (now : State) (name : List ℕ) : Type 0 where
  pub lanes : after name ≡ records name
  pub register : now.registers name ≡ state.registers name

-- a deed under a name leaves its register calm where it made a change there, and leaves each register as it was but one that it didn't only look at
pub record DeedCalms (w : ℕ) (called : List ℕ) (deed : Deed) (records : Records) (state : State) (after : Records) (now : State) : Type 0 where
  pub made : (change : ChangeId) → MadeIn change deed → IsCalmUnder w after now called
  pub stays : (name : List ℕ) → (called ≡ name → OnlyLooked deed) → StaysUnder records state after now name

-- a section leaves the register calm of which its entry says that a change was made; and it leaves each calm register as it was but one that it didn't only
-- look at
pub record SectionCalms (w : ℕ) (entry : Option Entry) (records : Records) (state : State) (after : Records) (now : State) : Type 0 where
  pub made : (name : List ℕ) (change : ChangeId) → HasMade entry name change → IsCalmUnder w after now name
  pub stays : (name : List ℕ) → IsCalmUnder w records state name → LooksAtMost entry name → StaysUnder records state after now name
