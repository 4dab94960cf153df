-- What one `next` and one `back` of a door do.
use Rattle.std.specs.Prelude.{◌≡◌, ◌<◌, Bool, true, false, ⊤, List, [], ◌∷◌, ◌++◌, length, Option, None, Some, option_map, Result, Ok, Err}

-- the things known, and after them this one
abbrev pub told_more : {X : Type 0} → Option (List X) → X → Option (List X)
told_more known x = option_map (λ all. all ++ x ∷ []) known

-- the door is over from the first None on, and only then
abbrev pub Ends : {X E : Type 0} → Result (Option X) E → Bool → Bool → Type 0
Ends (Ok None) old new = new ≡ true
Ends (Ok (Some _)) old new = (old ≡ false) × (new ≡ false)
Ends (Err _) old new = new ≡ old

-- a pair that was answered is the last one that the door gave, and no other answer gives one
abbrev pub Gives : {X E : Type 0} → Result (Option X) E → Option (List X) → Option (List X) → Type 0
Gives (Ok None) old new = new ≡ old
Gives (Ok (Some pair)) old new = new ≡ told_more old pair
Gives (Err _) old new = new ≡ old

-- fewer pairs came back than the door gave, as far as it tells
abbrev pub IsOwed : {X : Type 0} → Option (List X) → Option (List X) → Type 0
IsOwed None back = ⊤
IsOwed (Some gave) None = ⊤
IsOwed (Some gave) (Some back) = length back < length gave
