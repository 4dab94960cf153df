use Rattle.std.proofs.Common.{arith}
use Rattle.code_lanes.specs.Fold.{fold_weight}
use Rattle.code_lanes.specs.Steps.{only_four, values_at}
use Rattle.code_lanes.proofs.FoldLemmas.{low_coefficients, high_coefficients, low_across, high_across, eight_low_first, eight_low_second, eight_low_third, eight_low_fourth, eight_high_first, eight_high_second, eight_high_third, eight_high_fourth}
use Rattle.code_lanes.proofs.StepLemmas.{lanes_by}
use Rattle.code_lanes.proofs.fold.eight_rows.Goals as goal

pub returns-clause-low : goal.returns-clause-low
returns-clause-low c =
    let values = values_at c.args.width c.args.blocks.now c.args.at in
    let by = c.requires.tables in
    let low = c.interpolate_first-low.ensures 8 values (only_four 0) 2 (by 0 (omega arith)) (c.load_four.ensures 8 (omega arith)) in
    let high = c.interpolate_four-high.ensures 8 values (only_four 4) 6 4 6 (by 2 (omega arith)) (by 1 (omega arith)) (by 2 (omega arith))
    (c.load_four-upper.ensures 8 (omega arith)) in
    let crossed = c.cross.ensures 8 values low_coefficients high_coefficients 22 (by 3 (omega arith)) low high in
    let sums = c.evaluate_four-low.ensures 8 values low_across 28 8 10 (by 4 (omega arith)) (by 5 (omega arith)) (by 6 (omega arith)) crossed.0 in
    record {
      first = lanes_by 8 values _ (fold_weight 8 0) sums.first eight_low_first;
      second = lanes_by 8 values _ (fold_weight 8 1) sums.second eight_low_second;
      third = lanes_by 8 values _ (fold_weight 8 2) sums.third eight_low_third;
      fourth = lanes_by 8 values _ (fold_weight 8 3) sums.fourth eight_low_fourth;
    }

pub returns-clause-high : goal.returns-clause-high
returns-clause-high c =
    let values = values_at c.args.width c.args.blocks.now c.args.at in
    let by = c.requires.tables in
    let low = c.interpolate_first-low.ensures 8 values (only_four 0) 2 (by 0 (omega arith)) (c.load_four.ensures 8 (omega arith)) in
    let high = c.interpolate_four-high.ensures 8 values (only_four 4) 6 4 6 (by 2 (omega arith)) (by 1 (omega arith)) (by 2 (omega arith))
    (c.load_four-upper.ensures 8 (omega arith)) in
    let crossed = c.cross.ensures 8 values low_coefficients high_coefficients 22 (by 3 (omega arith)) low high in
    let sums = c.evaluate_four-high.ensures 8 values high_across 26 12 14 (by 7 (omega arith)) (by 8 (omega arith)) (by 9 (omega arith)) crossed.1 in
    record {
      first = lanes_by 8 values _ (fold_weight 8 4) sums.first eight_high_first;
      second = lanes_by 8 values _ (fold_weight 8 5) sums.second eight_high_second;
      third = lanes_by 8 values _ (fold_weight 8 6) sums.third eight_high_third;
      fourth = lanes_by 8 values _ (fold_weight 8 7) sums.fourth eight_high_fourth;
    }
