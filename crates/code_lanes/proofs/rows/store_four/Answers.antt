use Rattle.std.proofs.Common.{◌+◌, arith}
use Rattle.code_lanes.proofs.RowLemmas.{made_below}
use Rattle.code_lanes.proofs.rows.store_four.Goals as goal

pub returns : goal.returns
returns c sums end four made =
    let width = c.args.width in
    let rows = c.args.rows in
    let at = c.args.at in
    let first = c.store_row.ensures sums end four.first made in
    let second = made_below sums width rows end _ (c.args.row + 2) at _ (omega arith) (c.store_row-2.ensures sums end four.second first) in
    let third = made_below sums width rows end _ (c.args.row + 3) at _ (omega arith) (c.store_row-3.ensures sums end four.third second) in
    made_below sums width rows end _ (c.args.row + 4) at _ (omega arith) (c.store_row-4.ensures sums end four.fourth third)
