-- Lemmas on counts of faults over several calls.
use Rattle.std.proofs.Common.{◌≤◌, ℕ, Result, Ok, Err, arith}
use Rattle.io_base.specs.Count.{CountsFault}

-- no call lets the count fall
pub CountsFault-le : {A E : Type 0} (r : Result A E) (old new : ℕ) → CountsFault r old new → old ≤ new
CountsFault-le (Ok _) old new same = omega (arith, same)
CountsFault-le (Err _) old new rose = rose.0
