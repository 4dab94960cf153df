use Rattle.std.proofs.Common.{◌≡◌, ◌*◌, length, take}
use Rattle.hash_lanes.specs.Blocks.{block_digests}
use Rattle.hash_lanes.proofs.equal.hash_equal_blocks.Given as goal

abbrev pub invariant-groups : goal.invariant-groups
invariant-groups l =
    take (4 * l.group) l.digests ≡ take (4 * l.group) (block_digests l.size l.bytes (length l.fn.digests))
