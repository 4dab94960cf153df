-- Registers on which nothing may still become the value.
use Rattle.std.specs.Prelude.{ℕ, ◌≤◌, List, Contains, count_by}
use Rattle.vote_core.specs.Lane.{Next, Lane, HasNext, has_base_of}
use Rattle.vote_core.specs.Sound.{IsLive}

-- at least w lanes have a base that carries the value's change c, and no next may become the value
pub record IsCalm (w : ℕ) (lanes : List Lane) (c : ℕ) : Type 0 where
  pub held : w ≤ count_by (has_base_of c) lanes
  pub quiet : (a : Lane) (next : Next) → Contains lanes a → HasNext a next → ¬ IsLive lanes c a next
