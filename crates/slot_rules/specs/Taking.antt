-- Rows that are taken out of a slot's memory.
use Rattle.std.specs.Prelude.{◌≡◌, List, All, Option, Some, None}
use Rattle.slot_history.specs.State.{TakesOut}

-- the first row that is as asked is taken out, the others stay in their order; or there is none, and all stay
abbrev pub TakesRow : {A : Type 0} → (A → Type 0) → Option A → List A → List A → Type 0
TakesRow Is None old new = All (λ x. Is x → ⊥) old × (new ≡ old)
TakesRow Is (Some x) old new = Is x × TakesOut x old new
