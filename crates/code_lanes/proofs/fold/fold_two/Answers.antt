use Rattle.std.proofs.Common.{◌-◌, ◌*◌}
use Rattle.code_lanes.specs.Fold.{fold_at}
use Rattle.code_lanes.proofs.RowLemmas.{made_begun, made_turn}
use Rattle.code_lanes.proofs.fold.fold_two.Goals as goal

pub loop-index-preserved : goal.loop-index-preserved
loop-index-preserved c =
    let width = c.args.width in
    let rows = c.args.rows in
    let sums = fold_at 2 width c.args.blocks.now in
    let i = c.loop-index.index in
    let end = width - 32 * i in
    let at = c.saturating_sub-at.result in
    let begun = made_begun sums width rows end at c.loop-index.out c.loop-index.invariant in
    let first = c.store_row.ensures sums end c.two_rows-sums.ensures.first begun in
    let second = c.store_row-in-loop-index.ensures sums end c.two_rows-sums.ensures.second first in
    made_turn sums width rows i 2 at _ c.requires.wide c.requires.rows c.saturating_sub-at.ensures second
