use Rattle.std.proofs.Common.{◌≡◌, ℕ, ◌<◌, slice_index}
use Rattle.code_lanes.specs.Sums.{sum_at}
use Rattle.code_lanes.proofs.sums.sum_bytes.Given as goal

abbrev pub invariant-loop-k : goal.invariant-loop-k
invariant-loop-k l = (j : ℕ) → j < l.k → slice_index l.out j ≡ sum_at l.weights l.width l.blocks j
