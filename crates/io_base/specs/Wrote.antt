-- What a `give` over a writer does to the bytes that the writer holds, where it tells them.
use Rattle.std.specs.Prelude.{◌≤◌, ℕ, List, length, take, Option, Result, Ok, Err}
use Rattle.std.specs.Io.KnownBytes.{Appends}

-- some of the bytes, from the front, were written
pub record WroteFront (bytes : List ℕ) (old new : Option (List ℕ)) : Type 0 where
  pub count : ℕ
  pub within : count ≤ length bytes
  pub front : Appends old new (take count bytes)

-- all the bytes were written, or a front part of them where the call failed
abbrev pub Wrote : {A E : Type 0} → Result A E → List ℕ → Option (List ℕ) → Option (List ℕ) → Type 0
Wrote (Ok _) bytes old new = Appends old new bytes
Wrote (Err _) bytes old new = WroteFront bytes old new
