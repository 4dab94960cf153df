use Rattle.std.proofs.Common.{◌+◌, sym, subst}
use Rattle.code_lanes.specs.Rows.{AreMade}
use Rattle.code_lanes.proofs.RowLemmas.{made_row}
use Rattle.code_lanes.proofs.rows.store_row.Goals as goal

pub returns-then-row-rows : goal.returns-then-row-rows
returns-then-row-rows c sums end lanes made =
    subst (λ out. AreMade sums c.args.width c.args.rows end (c.args.row + 1) c.args.at out) (sym c.store.ensures)
    (made_row sums c.args.width c.args.rows end c.args.row c.args.at c.args.out.now c.args.v c.requires.out c.requires.within c.if-row-rows.true lanes made)
