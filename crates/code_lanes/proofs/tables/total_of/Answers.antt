use Rattle.std.proofs.Common.{get_or, sym, ap, ◌∙◌, slice_index, bit_xor}
use Rattle.gf256.specs.Field.{product}
use Rattle.gf256.proofs.Products.{product-xor_left, product-zero_left}
use Rattle.code_lanes.proofs.SumLemmas.{sum-none, sum-next}
use Rattle.code_lanes.proofs.tables.total_of.Goals as goal

pub loop-weight-init : goal.loop-weight-init
loop-weight-init c x = product-zero_left x ∙ sym (sum-none (slice_index c.args.weights.now) (λ _. x))

pub loop-weight-preserved : goal.loop-weight-preserved
loop-weight-preserved c x =
    let weights = c.args.weights.now in
    let i = c.loop-weight.weight-index in
    product-xor_left c.loop-weight.total (get_or weights i 0) x
    ∙ ap (λ y. bit_xor y (product (get_or weights i 0) x)) (c.loop-weight.invariant x) ∙ sum-next (slice_index weights) (λ _. x) i
