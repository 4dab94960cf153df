use Rattle.std.proofs.Common.{◌≤◌, length}
use Rattle.std.specs.List.{IsFirstMaxByKey}
use Rattle.vote_core.specs.Row.{next_height}
use Rattle.vote_core.proofs.verdict.greatest_next.Given as goal

abbrev pub invariant-loop-lane : goal.invariant-loop-lane
invariant-loop-lane l = IsFirstMaxByKey next_height l.rows l.lane l.best × (l.lane ≤ length l.rows)
