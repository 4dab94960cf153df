use Rattle.std.proofs.Common.{◌≡◌, ℕ, List, length}
use Rattle.code_lanes.specs.Tables.{AreSumTables}
use Rattle.code_lanes.proofs.SumLemmas.{StripOf}
use Rattle.code_lanes.proofs.twin.two_strips.Given as goal

abbrev pub invariant-loop-index : goal.invariant-loop-index
invariant-loop-index l = record {
  first : (weights : List ℕ) → AreSumTables weights l.first.total l.first.whole l.first.each → length weights ≡ l.count
      → StripOf weights l.first.total l.width l.blocks l.at l.index l.sums;
  second : (weights : List ℕ) → AreSumTables weights l.second.total l.second.whole l.second.each → length weights ≡ l.count
      → StripOf weights l.second.total l.width l.blocks l.at l.index l.others;
}
