-- How long a peer is waited for.
use Rattle.std.specs.Prelude.{◌≡◌, ◌⊎◌, ◌<◌, ◌≤◌, ◌+◌, ℕ, min, Result, Ok, Err}
use Rattle.std.specs.Duration.{as_nanos, max_nanos}
use Rattle.io_base.specs.declared.pace.Pace.{Pace}

-- for how many nanoseconds a peer was waited for, and how many bytes it gave in them
pub record Waited : Type 0 where
  pub nanos : ℕ
  pub bytes : ℕ

-- it was not waited for
abbrev pub no_wait : Waited
no_wait = record { nanos = 0; bytes = 0 }

-- what a pace remembers
abbrev pub waited_of : Pace → Waited
waited_of p = record { nanos = as_nanos p.waited; bytes = p.bytes }

-- after one more wait: all is forgotten once 1,024 bytes came, and before that both are added up
pub record GoesOn (nanos bytes : ℕ) (old new : Waited) : Type 0 where
  pub enough : 1024 ≤ old.bytes + bytes → new ≡ no_wait
  pub fewer : old.bytes + bytes < 1024 → new ≡ record { nanos = min (old.nanos + nanos) max_nanos; bytes = old.bytes + bytes }

-- one more wait, which gave so many bytes
pub record Waits (bytes : ℕ) (old new : Waited) : Type 0 where
  pub nanos : ℕ
  pub goes_on : GoesOn nanos bytes old new

-- a read counts its wait and its bytes, and one that failed its wait at most
abbrev pub CountsWait : {E : Type 0} → Result ℕ E → Waited → Waited → Type 0
CountsWait (Ok n) old new = Waits n old new
CountsWait (Err _) old new = (new ≡ old) ⊎ Waits 0 old new
