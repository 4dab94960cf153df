use Rattle.std.proofs.Common.{◌≤◌}
use Rattle.trial_codes.proofs.digest_rows.mixed.Given as goal

abbrev pub invariant-loop-word : goal.invariant-loop-word
invariant-loop-word l = l.count ≤ 17
