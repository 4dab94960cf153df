-- What a reader of a piece of a document answers.
use Rattle.std.specs.Prelude.{◌≡◌, ℕ, true, false, List, [], ◌∷◌, Some, None, ◌==◌, if◌then◌else◌}
use Rattle.s3_docs.specs.Bytes.{is_blank, is_letter, is_name_byte}
use Rattle.s3_docs.specs.Machine.{State, is_gap, moves, said}
use Rattle.s3_docs.specs.Outcomes.{Fails, outcome}

-- The piece is read: what comes of the bytes from the one state on is what comes of the rest from the other on.
abbrev pub Reads : State → List ℕ → State → List ℕ → Type 0
Reads from bytes to rest = outcome from bytes ≡ outcome to rest

-- It doesn't go on where so many bytes are left.
abbrev pub Stops : State → List ℕ → ℕ → Type 0
Stops from bytes left = outcome from bytes ≡ Fails left

-- No white space stands at the front.
abbrev pub NoBlank : List ℕ → Type 0
NoBlank [] = Unit {0}
NoBlank (b ∷ bytes) = is_blank b ≡ false

-- No byte of a name stands at the front.
abbrev pub NoNameByte : List ℕ → Type 0
NoNameByte [] = Unit {0}
NoNameByte (b ∷ bytes) = is_name_byte b ≡ false

-- White space and then `<` lead from the one state to the other.
abbrev pub Opens : State → State → Type 0
Opens gap next = (is_gap gap ≡ true) × (said gap ≡ None) × ((b : ℕ) → moves gap b ≡ (if b == 60 then Some next else None))

-- A letter stands at the front.
abbrev pub BeginsWithLetter : List ℕ → Type 0
BeginsWithLetter [] = ⊥
BeginsWithLetter (b ∷ bytes) = is_letter b ≡ true
