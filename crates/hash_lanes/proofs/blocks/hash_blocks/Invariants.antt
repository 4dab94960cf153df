use Rattle.std.proofs.Common.{◌≡◌, ◌-◌, ◌≤◌, length, take}
use Rattle.hash_lanes.specs.Blocks.{digests_of}
use Rattle.hash_lanes.proofs.blocks.hash_blocks.Given as goal

abbrev pub invariant-groups : goal.invariant-groups
invariant-groups l = (l.at ≤ length l.blocks) × (take l.at l.digests ≡ take l.at (digests_of l.blocks))

abbrev pub decreases-groups : goal.decreases-groups
decreases-groups l = length l.blocks - l.at
