use Rattle.std.proofs.Common.{◌≡◌, List, ◌++◌, length}
use Rattle.std.specs.List.{flat_map}
use Rattle.stamp_id.specs.VersionId.{id_bytes}
use Rattle.stamp_id.specs.declared.version.VersionId.{VersionId}
use Rattle.slot_rules.proofs.planning.ids_of.Given as goal

-- the first ids were read, and these bytes are left of the others
abbrev pub invariant-loop-first : goal.invariant-loop-first
invariant-loop-first l = (ids : List VersionId) → l.fn.bytes ≡ flat_map id_bytes ids
    → (rest : List VersionId) × (ids ≡ l.ids.items ++ rest) × (l.left ≡ flat_map id_bytes rest)

abbrev pub decreases-loop-first : goal.decreases-loop-first
decreases-loop-first l = length l.left
