use Rattle.std.proofs.Common.{◌≡◌, slice_index}
use Rattle.code_lanes.specs.Sums.{byte_of_block, sum_of_products}
use Rattle.code_lanes.proofs.sums.byte_sum.Given as goal

abbrev pub invariant-loop-index : goal.invariant-loop-index
invariant-loop-index l = l.sum ≡ sum_of_products (slice_index l.weights) (byte_of_block l.width l.k l.blocks) l.index
