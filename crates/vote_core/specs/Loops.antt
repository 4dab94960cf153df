-- What a loop of writes leaves: each lane is as before or has exactly the loop's record, whatever calls failed, and whatever a lane that is out has.
use Rattle.std.specs.Prelude.{◌≡◌, ◌≢◌, ◌⊎◌, ⊤, ℕ, ◌<◌, ◌≤◌, Bool, IsTrue, List, [], ◌∷◌, None, Some, Contains, count_by}
use Rattle.std.specs.List.{AllZip}
use Rattle.vote_core.specs.Lane.{Base, Next, Lane, HasNext}

-- each lane is as before, or has exactly this record
abbrev pub Leaves : Lane → List Lane → List Lane → Type 0
Leaves x old new = AllZip (λ before after. (after ≡ before) ⊎ (after ≡ x)) old new

-- each lane is as before, or it is a target and has exactly this record
abbrev pub LeavesAt : List Bool → Lane → List Lane → List Lane → Type 0
LeavesAt [] x [] [] = ⊤
LeavesAt (target ∷ targets) x (before ∷ old) (after ∷ new) = ((after ≡ before) ⊎ (IsTrue target × (after ≡ x))) × LeavesAt targets x old new
LeavesAt _ x _ _ = ⊥

-- each lane of the mask has exactly this record
abbrev pub Have : List Bool → Lane → List Lane → Type 0
Have mask x lanes = AllZip (λ (has : Bool) lane. IsTrue has → lane ≡ x) mask lanes

-- how many lanes a mask has
abbrev pub size : List Bool → ℕ
size mask = count_by (λ has. has) mask

-- the lanes of the mask, of which there are at least w, have exactly this record
pub record AtLeastHave (w : ℕ) (mask : List Bool) (x : Lane) (lanes : List Lane) : Type 0 where
  pub have : Have mask x lanes
  pub enough : w ≤ size mask

-- the record that a prepare writes
abbrev pub prepared : Base → Next → Lane
prepared base next = record { base = base; next = Some next }

-- the record that a mark writes: the next as the base
abbrev pub marked : Next → Lane
marked next = record { base = record { ballot = next.ballot; change = next.change; content = next.content }; next = None }

-- the record that a mend writes
abbrev pub mended : Base → Lane
mended base = record { base = base; next = None }

-- a base stands on some lane
abbrev pub Stands : List Lane → Base → Type 0
Stands lanes base = (lane : Lane) × Contains lanes lane × (lane.base ≡ base)

-- each ballot of the lane is below this one
pub record BallotsAreBelow (ballot : ℕ) (lane : Lane) : Type 0 where
  pub base : lane.base.ballot < ballot
  pub next : (n : Next) → HasNext lane n → n.ballot < ballot

-- a ballot is above each of the register's records, and was drawn
pub record IsFreshBallot (last : ℕ) (lanes : List Lane) (ballot : ℕ) : Type 0 where
  pub highest : (a : Lane) → Contains lanes a → BallotsAreBelow ballot a
  pub drawn : ballot ≤ last

-- no record of the register carries this change
pub record IsFreshChange (lanes : List Lane) (c : ℕ) : Type 0 where
  pub bases : (a : Lane) → Contains lanes a → a.base.change ≢ c
  pub nexts : (a : Lane) (next : Next) → Contains lanes a → HasNext a next → next.change ≢ c

-- a change of one's own, to be proposed over the value's change c
pub record IsOwn (last : ℕ) (lanes : List Lane) (c : ℕ) (next : Next) : Type 0 where
  pub parent : next.parent ≡ c
  pub own : next.change ≤ next.ballot
  pub ballot : IsFreshBallot last lanes next.ballot
  pub change : IsFreshChange lanes next.change

-- a pending change under a fresh ballot: change, content and data are kept, and the parent is the base's change
pub record IsAgain (last : ℕ) (lanes : List Lane) (base : Base) (found next : Next) : Type 0 where
  pub parent : next.parent ≡ base.change
  pub change : next.change ≡ found.change
  pub content : next.content ≡ found.content
  pub adds : next.adds ≡ found.adds
  pub above : IsFreshBallot last lanes next.ballot

-- the lanes after a prepare, before its mark: each other ballot is below the prepared one, and what is prepared carries the value's change c, or is
-- proposed over it while no base carries it
pub record IsPrepared (lanes : List Lane) (c : ℕ) (base : Base) (next : Next) : Type 0 where
  pub others : (a : Lane) → Contains lanes a → (a ≡ prepared base next) ⊎ BallotsAreBelow next.ballot a
  pub over : (next.change ≡ c) ⊎ ((base.change ≡ c) × ((a : Lane) → Contains lanes a → a.base.change ≢ next.change))
