use Rattle.std.proofs.Common.{◌+◌, ◌*◌, arith, ap, get_or}
use Rattle.code_lanes.specs.Steps.{values_at}
use Rattle.code_lanes.proofs.LaneLemmas.{HasLanes-is}
use Rattle.code_lanes.proofs.StepLemmas.{alone}
use Rattle.code_lanes.proofs.rows.load_row.Goals as goal

pub returns : goal.returns
returns c count low =
    let blocks = c.args.blocks.now in
    let at = c.args.at in
    let row = c.args.row in
    let width = c.args.width in
    alone count (values_at width blocks at) row (λ k i. omega (arith, c.type_inv.blocks (i * width + (at + k)))) (omega arith)
    (HasLanes-is _ (λ k. values_at width blocks at k row) c.load.ensures (λ k l. ap (λ p. get_or blocks p 0) (omega arith)))
