use Rattle.std.proofs.Common.{◌≡◌, ℕ, ◌<◌, [], length, slice_index, slice_index_or}
use Rattle.code_lanes.specs.Tables.{IsTable}
use Rattle.code_lanes.proofs.tables.tables_of.Given as goal

abbrev pub invariant-loop-index : goal.invariant-loop-index
invariant-loop-index l = (length l.tables ≡ 16)
    × ((i : ℕ) → i < l.index → IsTable (slice_index l.weights i) (slice_index_or l.tables i []))
