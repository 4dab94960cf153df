use Rattle.std.proofs.Common.{◌≤◌}
use Rattle.trial_codes.proofs.stripe_rows.comes_back.Given as goal

abbrev pub invariant-loop-row : goal.invariant-loop-row
invariant-loop-row l = l.count ≤ 16
