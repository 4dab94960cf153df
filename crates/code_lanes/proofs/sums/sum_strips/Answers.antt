use Rattle.std.proofs.Common.{ap, ◌∙◌, arith, length, slice_index}
use Rattle.code_lanes.specs.Sums.{sum_at}
use Rattle.code_lanes.proofs.SumLemmas.{stored_next}
use Rattle.code_lanes.proofs.sums.sum_strips.Goals as goal

pub loop-index-preserved : goal.loop-index-preserved
loop-index-preserved c = λ weights are many k low within.
    let width = length c.args.out.now in
    ap (λ xs. slice_index xs k) c.store.ensures
    ∙ stored_next width c.loop-index.index c.saturating_sub-at.result c.loop-index.out c.strip.result (sum_at weights width c.args.blocks.now)
    (omega arith) (omega arith) c.saturating_sub-at.ensures (c.strip.ensures weights are many) (c.loop-index.invariant weights are many) k low within
