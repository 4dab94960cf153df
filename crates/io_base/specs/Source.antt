-- What one `take` does.
use Rattle.std.specs.Prelude.{◌≡◌, ◌<◌, ◌≤◌, ℕ, List, length, take, Option, Result, Ok, Err}
use Rattle.std.specs.Io.KnownBytes.{prepend_known, IsAtEnd}

-- the front n bytes of the buffer were taken, none of them only where the buffer has no room or the
-- source has ended
pub record TookFront (n : ℕ) (into : List ℕ) (old new : Option (List ℕ)) : Type 0 where
  pub fits : n ≤ length into
  pub bytes : old ≡ prepend_known (take n into) new
  pub ends : n ≡ 0 → 0 < length into → IsAtEnd new

-- `take(into)` answered so: old and new are what was left before and after, told or not, and `into`
-- is the buffer as the call left it
abbrev pub Took : {E : Type 0} → Result ℕ E → List ℕ → Option (List ℕ) → Option (List ℕ) → Type 0
Took (Ok n) into old new = TookFront n into old new
Took (Err _) into old new = new ≡ old
