use Rattle.std.proofs.Common.{arith}
use Rattle.code_lanes.specs.Fold.{fold_weight}
use Rattle.code_lanes.specs.Steps.{first_coefficients, only_four, values_at}
use Rattle.code_lanes.proofs.FoldLemmas.{four_first, four_second, four_third, four_fourth}
use Rattle.code_lanes.proofs.StepLemmas.{lanes_by}
use Rattle.code_lanes.proofs.fold.four_rows.Goals as goal

pub returns : goal.returns
returns c =
    let values = values_at c.args.width c.args.blocks.now c.args.at in
    let by_2 = c.requires.tables 0 (omega arith) in
    let by_4 = c.requires.tables 1 (omega arith) in
    let by_6 = c.requires.tables 2 (omega arith) in
    let coefficients = c.interpolate_first-coefficients.ensures 4 values (only_four 0) 2 by_2 (c.load_four-values.ensures 4 (omega arith)) in
    let sums = c.evaluate_four.ensures 4 values (first_coefficients 2 (only_four 0)) 6 4 6 by_6 by_4 by_6 coefficients in
    record {
      first = lanes_by 4 values _ (fold_weight 4 0) sums.first four_first;
      second = lanes_by 4 values _ (fold_weight 4 1) sums.second four_second;
      third = lanes_by 4 values _ (fold_weight 4 2) sums.third four_third;
      fourth = lanes_by 4 values _ (fold_weight 4 3) sums.fourth four_fourth;
    }
