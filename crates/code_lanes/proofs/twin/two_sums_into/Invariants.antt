use Rattle.std.proofs.Common.{◌≡◌, ℕ, ◌+◌, ◌*◌, ◌<◌, ◌≤◌, slice_index}
use Rattle.code_lanes.specs.Sums.{sum_at}
use Rattle.code_lanes.proofs.twin.two_sums_into.Given as goal

-- the places from width - 32 * index on are done
abbrev pub invariant-loop-index : goal.invariant-loop-index
invariant-loop-index l = record {
  first : (k : ℕ) → l.width ≤ k + 32 * l.index → k < l.width → slice_index l.out k ≡ sum_at l.first l.width l.blocks k;
  second : (k : ℕ) → l.width ≤ k + 32 * l.index → k < l.width → slice_index l.other k ≡ sum_at l.second l.width l.blocks k;
}
