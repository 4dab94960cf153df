-- What comes of bytes that are read from left to right.
use Rattle.std.specs.Prelude.{ℕ, List, [], ◌∷◌, length, Option, Some, None}
use Rattle.s3_docs.specs.Machine.{State, Value, step, said}

-- What comes of bytes: what they say, or how many of them are left from the first on at which it doesn't go on.
pub data Outcome : Type 0 where
  Says : Value → Outcome
  Fails : ℕ → Outcome

abbrev pub at_the_end : Option Value → Outcome
at_the_end (Some value) = Says value
at_the_end None = Fails 0

abbrev pub goes_on : Option State → (State → Outcome) → ℕ → Outcome
goes_on (Some next) outcome left = outcome next
goes_on None outcome left = Fails left

-- what comes of these bytes from here on
abbrev pub outcome : State → List ℕ → Outcome
outcome state [] = at_the_end (said state)
outcome state (b ∷ bytes) = goes_on (step state b) (λ next. outcome next bytes) (length (b ∷ bytes))
