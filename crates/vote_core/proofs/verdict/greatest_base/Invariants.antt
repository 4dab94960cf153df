use Rattle.std.proofs.Common.{◌≤◌, length}
use Rattle.std.specs.List.{IsFirstMaxByKey}
use Rattle.vote_core.specs.Row.{base_height}
use Rattle.vote_core.proofs.verdict.greatest_base.Given as goal

abbrev pub invariant-loop-lane : goal.invariant-loop-lane
invariant-loop-lane l = IsFirstMaxByKey base_height l.rows l.lane l.best × (l.lane ≤ length l.rows)
