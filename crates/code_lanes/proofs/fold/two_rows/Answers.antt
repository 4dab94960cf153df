use Rattle.std.proofs.Common.{arith}
use Rattle.code_lanes.specs.Fold.{fold_weight}
use Rattle.code_lanes.specs.Steps.{only, values_at}
use Rattle.code_lanes.proofs.FoldLemmas.{two_low, two_high}
use Rattle.code_lanes.proofs.StepLemmas.{lanes_by}
use Rattle.code_lanes.proofs.fold.two_rows.Goals as goal

pub returns-clause-first : goal.returns-clause-first
returns-clause-first c =
    let values = values_at c.args.width c.args.blocks.now c.args.at in
    let sums = c.cross_two.ensures 2 values (only 0) (only 1) 2 c.requires.table (c.load_row-first.ensures 2 (omega arith)) (c.load_row-second.ensures 2 (omega arith)) in
    lanes_by 2 values _ (fold_weight 2 0) sums.0 two_low

pub returns-clause-second : goal.returns-clause-second
returns-clause-second c =
    let values = values_at c.args.width c.args.blocks.now c.args.at in
    let sums = c.cross_two.ensures 2 values (only 0) (only 1) 2 c.requires.table (c.load_row-first.ensures 2 (omega arith)) (c.load_row-second.ensures 2 (omega arith)) in
    lanes_by 2 values _ (fold_weight 2 1) sums.1 two_high
