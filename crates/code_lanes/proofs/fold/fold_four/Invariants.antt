use Rattle.std.proofs.Common.{◌-◌, ◌*◌}
use Rattle.code_lanes.specs.Fold.{fold_at}
use Rattle.code_lanes.specs.Rows.{AreMade}
use Rattle.code_lanes.proofs.fold.fold_four.Given as goal

abbrev pub invariant-loop-index : goal.invariant-loop-index
invariant-loop-index l = AreMade (fold_at 4 l.width l.blocks) l.width l.rows (l.width - 32 * l.index) 0 0 l.out
