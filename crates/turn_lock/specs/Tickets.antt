-- Tickets, counted.
use Rattle.std.specs.Prelude.{ℕ, ◌+◌, List, [], ◌∷◌, Option, Some, None, cond, ltb, eqb}

-- the last number, which no ticket has: no value could count the turn after it
abbrev pub last_ticket : ℕ
last_ticket = 18446744073709551615

-- f of each, added up
abbrev pub total : {A : Type 0} → (A → ℕ) → List A → ℕ
total f [] = 0
total f (x ∷ xs) = f x + total f xs

-- 1 where both are one number, and else 0
abbrev pub same : ℕ → ℕ → ℕ
same x y = cond (eqb x y) 1 0

-- how often a ticket stands in a list
abbrev pub times : ℕ → List ℕ → ℕ
times x = total (same x)

-- 1 where it is the ticket that is held, and else 0
abbrev pub holds : ℕ → Option ℕ → ℕ
holds x None = 0
holds x (Some t) = same x t

-- 1 where a ticket is from the first number on and below the second one, and else 0
abbrev pub between : ℕ → ℕ → ℕ → ℕ
between from to x = cond (ltb x from) 0 (cond (ltb x to) 1 0)
