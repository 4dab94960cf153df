use Rattle.std.proofs.Common.{◌-◌, ◌*◌}
use Rattle.code_lanes.specs.Fold.{fold_at}
use Rattle.code_lanes.proofs.RowLemmas.{made_begun, made_turn}
use Rattle.code_lanes.proofs.fold.fold_four.Goals as goal

pub loop-index-preserved : goal.loop-index-preserved
loop-index-preserved c =
    let width = c.args.width in
    let rows = c.args.rows in
    let sums = fold_at 4 width c.args.blocks.now in
    let i = c.loop-index.index in
    let end = width - 32 * i in
    let at = c.saturating_sub-at.result in
    let begun = made_begun sums width rows end at c.loop-index.out c.loop-index.invariant in
    made_turn sums width rows i 4 at _ c.requires.wide c.requires.rows c.saturating_sub-at.ensures
    (c.store_four.ensures sums end c.four_rows-sums.ensures begun)
