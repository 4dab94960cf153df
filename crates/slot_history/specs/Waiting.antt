-- Late steps: changes that were refused and are applied after all.
use Rattle.std.specs.Prelude.{◌≡◌, ◌⊎◌, ℕ, ◌<◌, List, [], ◌∷◌, map, Contains}
use Rattle.stamp_id.specs.declared.version.VersionId.{VersionId}
use Rattle.call_types.specs.declared.names.Key.{Key}
use Rattle.slot_history.specs.Contents.{HasOpen, number_of_id}
use Rattle.slot_history.specs.Names.{key_name, part_name}
use Rattle.slot_history.specs.State.{Changes, Register, State, TakesOut, Waiting, blank}
use Rattle.version_list.specs.State.{AreDistinct}

-- the register that a change makes which waits
abbrev pub register_of : Waiting → Register
register_of w = record { change = w.change; content = w.content }

-- a change that waits is applied: its parent is its name's last change, it waits no more, and it becomes the last change
pub record IsLate (w : Waiting) (old new : State) : Type 0 where
  pub waits : TakesOut w old.pending new.pending
  pub parent : w.parent ≡ (old.registers w.name).change
  pub changes : Changes w.name (register_of w) old.registers new.registers
  pub applied : new.applied ≡ w.change ∷ old.applied

-- several are applied, one after another
abbrev pub AreLate : List Waiting → State → State → Type 0
AreLate [] old new = new ≡ old
AreLate (w ∷ more) old new = (mid : State) × IsLate w old mid × AreLate more mid new

-- some of those that wait are applied
abbrev pub Lates : State → State → Type 0
Lates old new = (some : List Waiting) × AreLate some old new

-- a change opens no upload but those that its key has open and one of its own id
abbrev pub OpensItsOwn : Waiting → State → Type 0
OpensItsOwn w state = (at : Key) (upload : VersionId) → w.name ≡ key_name at → HasOpen w.content upload
    → HasOpen (state.registers w.name).content upload ⊎ (number_of_id upload ≡ w.change)

-- a change is the last one of no name yet, or was applied
abbrev pub WasApplied : ℕ → State → Type 0
WasApplied change state = (change ≡ 0) ⊎ Contains state.applied change

-- each open upload was opened by a change that was applied
abbrev pub AreOpened : State → Type 0
AreOpened state = (at : Key) (upload : VersionId) → HasOpen (state.registers (key_name at)).content upload → Contains state.applied (number_of_id upload)

-- under the names of the parts of an upload that was never opened nothing stands, and nothing waits
pub record PartsAreOpened (state : State) : Type 0 where
  pub none_stands : (at : Key) (upload : VersionId) (number : ℕ)
      → (state.registers (part_name at upload number) ≡ blank) ⊎ Contains state.applied (number_of_id upload)
  pub none_waits : (at : Key) (upload : VersionId) (number : ℕ) (w : Waiting) → Contains state.pending w → w.name ≡ part_name at upload number
      → Contains state.applied (number_of_id upload)

-- a state that a history can have: what waits was never applied and differs, its parent was applied, and so was the last change of each name; a change
-- that may be applied opens its own upload at most; and nothing stands under the name of a part whose upload was never opened
pub record IsLawful (state : State) : Type 0 where
  pub once : (w : Waiting) → Contains state.pending w → Contains state.applied w.change → ⊥
  pub some : (w : Waiting) → Contains state.pending w → 0 < w.change
  pub differ : AreDistinct (map (λ (w : Waiting). w.change) state.pending)
  pub parents : (w : Waiting) → Contains state.pending w → WasApplied w.parent state
  pub lasts : (name : List ℕ) → WasApplied (state.registers name).change state
  pub opens : (w : Waiting) → Contains state.pending w → w.parent ≡ (state.registers w.name).change → OpensItsOwn w state
  pub opened : AreOpened state
  pub parts : PartsAreOpened state
