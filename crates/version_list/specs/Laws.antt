-- What reading and writing promise of each other.
use Rattle.std.specs.Prelude.{◌≡◌, ℕ, List, Option, Some, None, Result, Ok, Err}
use Rattle.call_types.specs.declared.refusal.ListFault.{ListFault}
use Rattle.call_types.specs.declared.refusal.ListFault.TheVariants.{NotCanonical, NoMemory}
use Rattle.field_reader.specs.Format.{fault_at}
use Rattle.field_reader.specs.Spelling.{IsBytes}
use Rattle.version_list.specs.declared.state.KeyState.{KeyState}
use Rattle.version_list.specs.State.{IsCanonical}
use Rattle.version_list.specs.Spelling.{spelling}
use Rattle.version_list.specs.Layout.{key_state}

-- The answer is this state, unless memory was missing.
abbrev pub IsReadAs : KeyState → Result KeyState ListFault → Type 0
IsReadAs state (Ok read) = read ≡ state
IsReadAs state (Err (NotCanonical place)) = ⊥
IsReadAs state (Err NoMemory) = Unit {0}

-- A state is answered where there is no fault, and a refusal names the fault's place. Memory may be missing.
abbrev pub TellsFault : Result KeyState ListFault → Option ℕ → Type 0
TellsFault (Ok read) fault = fault ≡ None
TellsFault (Err (NotCanonical place)) fault = fault ≡ Some place
TellsFault (Err NoMemory) fault = Unit {0}

-- The spelling of a canonical state has no fault.
abbrev pub SpellingsHaveNoFault : Type 0
SpellingsHaveNoFault = (state : KeyState) → IsCanonical state → fault_at key_state (spelling state) ≡ None

-- A content with no fault spells a canonical state.
abbrev pub FaultlessIsSpelled : Type 0
FaultlessIsSpelled = (content : List ℕ) → IsBytes content → fault_at key_state content ≡ None
    → (state : KeyState) × IsCanonical state × (content ≡ spelling state)

-- Two canonical states with one spelling are the same.
abbrev pub SpellingIsInjective : Type 0
SpellingIsInjective = (a b : KeyState) → IsCanonical a → IsCanonical b → spelling a ≡ spelling b → a ≡ b
