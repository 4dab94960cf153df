use Rattle.std.proofs.Common.{◌≡◌, ℕ, List, length}
use Rattle.code_lanes.specs.Tables.{AreSumTables}
use Rattle.code_lanes.proofs.SumLemmas.{StripOf}
use Rattle.code_lanes.proofs.sums.strip.Given as goal

abbrev pub invariant-loop-index : goal.invariant-loop-index
invariant-loop-index l = (weights : List ℕ) → AreSumTables weights l.tables.total l.tables.whole l.tables.each → length weights ≡ l.count
    → StripOf weights l.tables.total l.width l.blocks l.at l.index l.sums
