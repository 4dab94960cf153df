use Rattle.std.proofs.Common.{◌≡◌, length}
use Rattle.ostore.proofs.doors_of.Given as goal

-- as many doors as were counted
abbrev pub invariant-loop : goal.invariant-loop
invariant-loop g l = length l.doors.items ≡ l.counter
