-- What a reader answers.
use Rattle.std.specs.Prelude.{◌≡◌, ℕ, Result, Ok, Err}
use Rattle.field_reader.specs.declared.fault.Misspelled.{Misspelled}
use Rattle.field_reader.specs.declared.fault.ReadFault.{ReadFault}
use Rattle.field_reader.specs.declared.fault.ReadFault.TheVariants.{At, NoMemory}
use Rattle.field_reader.specs.Format.{Spot, Found}

-- The answer is what the format finds, its value seen by a view, and the reader stands behind it.
abbrev pub Takes : {X Y : Type 0} → (X → Y) → Result X Misspelled → Spot → Found Y → Type 0
Takes view (Ok value) after found = found ≡ Ok (view value, after)
Takes view (Err misspelled) after found = found ≡ Err misspelled.0

-- The same of a reader that takes memory, which it may lack.
abbrev pub Gives : {X Y : Type 0} → (X → Y) → Result X ReadFault → Spot → Found Y → Type 0
Gives view (Ok value) after found = found ≡ Ok (view value, after)
Gives view (Err (At place)) after found = found ≡ Err place
Gives view (Err NoMemory) after found = Unit {0}

-- The same of a whole content.
abbrev pub GivesWhole : {X Y : Type 0} → (X → Y) → Result X ReadFault → Result Y ℕ → Type 0
GivesWhole view (Ok value) found = found ≡ Ok (view value)
GivesWhole view (Err (At place)) found = found ≡ Err place
GivesWhole view (Err NoMemory) found = Unit {0}
