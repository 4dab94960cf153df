use Rattle.std.proofs.Common.{◌≡◌, map, Ok}
use Rattle.ostore.proofs.openers.all_of.Given as goal

-- what was yielded is the values so far
abbrev pub invariant-loop-one : goal.invariant-loop-one
invariant-loop-one g l = l.yielded ≡ map Ok l.values.items
