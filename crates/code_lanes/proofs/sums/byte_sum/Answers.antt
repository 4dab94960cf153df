use Rattle.std.proofs.Common.{ap, sym, ◌∙◌, slice_index, bit_xor}
use Rattle.code_lanes.specs.Sums.{byte_of_block, sum_of_products}
use Rattle.code_lanes.proofs.SumLemmas.{sum-none, sum-next}
use Rattle.code_lanes.proofs.sums.byte_sum.Goals as goal

pub loop-index-init : goal.loop-index-init
loop-index-init c = sym (sum-none (slice_index c.args.weights.now) (byte_of_block c.args.width c.args.k c.args.blocks.now))

pub loop-index-preserved : goal.loop-index-preserved
loop-index-preserved c =
    let weights = slice_index c.args.weights.now in
    let values = byte_of_block c.args.width c.args.k c.args.blocks.now in
    let i = c.loop-index.index in
    ap (λ x. bit_xor x c.mul-sum.result) c.loop-index.invariant ∙ ap (λ x. bit_xor (sum_of_products weights values i) x) c.mul-sum.ensures
    ∙ sum-next weights values i
