use Rattle.std.proofs.Common.{◌≢◌, ◌<◌, ℕ, get_or}
use Rattle.trial_codes.proofs.stripe_rows.are_distinct.Given as goal

abbrev pub invariant-loop-index : goal.invariant-loop-index
invariant-loop-index l = (i j : ℕ) → i < j → j < l.index → get_or l.rows i 0 ≢ get_or l.rows j 0
