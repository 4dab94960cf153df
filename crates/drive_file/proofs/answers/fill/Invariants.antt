use Rattle.std.proofs.Common.{length, ◌≤◌, ◌≡◌}
use Rattle.drive_file.proofs.answers.fill.Given as goal

-- the count is within the buffer, which has its length
abbrev pub invariant-loop : goal.invariant-loop
invariant-loop g l = record {
  within : l.count ≤ length l.initial.into;
  long : length l.into ≡ length l.initial.into;
}
