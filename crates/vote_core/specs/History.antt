-- Changes that can never take effect any more.
use Rattle.std.specs.Prelude.{◌≡◌, ◌≢◌, ℕ, List, Contains}
use Rattle.vote_core.specs.Lane.{Next, Lane, HasNext}

-- a change that isn't the value's change c, and of which no next has c as its parent
pub record IsDead (lanes : List Lane) (c dead : ℕ) : Type 0 where
  pub other : dead ≢ c
  pub orphan : (a : Lane) (next : Next) → Contains lanes a → HasNext a next → next.change ≡ dead → next.parent ≢ c
