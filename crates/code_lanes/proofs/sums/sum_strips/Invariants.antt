use Rattle.std.proofs.Common.{◌≡◌, ℕ, List, ◌+◌, ◌*◌, ◌<◌, ◌≤◌, length, slice_index}
use Rattle.code_lanes.specs.Sums.{sum_at}
use Rattle.code_lanes.specs.Tables.{AreSumTables}
use Rattle.code_lanes.proofs.sums.sum_strips.Given as goal

-- the places from width - 32 * index on are done
abbrev pub invariant-loop-index : goal.invariant-loop-index
invariant-loop-index l = (weights : List ℕ) → AreSumTables weights l.tables.total l.tables.whole l.tables.each → length weights ≡ l.count
    → (k : ℕ) → l.width ≤ k + 32 * l.index → k < l.width → slice_index l.out k ≡ sum_at weights l.width l.blocks k
