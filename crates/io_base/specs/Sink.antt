-- What one `give` does.
use Rattle.std.specs.Prelude.{◌≡◌, ◌≤◌, ℕ, List, length, take, Option, Result, Ok, Err}
use Rattle.std.specs.Io.KnownBytes.{append_known}

-- some of the bytes, from the front, were given
pub record GaveFront (bytes : List ℕ) (old new : Option (List ℕ)) : Type 0 where
  pub count : ℕ
  pub within : count ≤ length bytes
  pub front : new ≡ append_known old (take count bytes)

-- `give(bytes)` answered so: old and new are what was given before and after, told or not
abbrev pub Gave : {A E : Type 0} → Result A E → List ℕ → Option (List ℕ) → Option (List ℕ) → Type 0
Gave (Ok _) bytes old new = new ≡ append_known old bytes
Gave (Err _) bytes old new = GaveFront bytes old new
