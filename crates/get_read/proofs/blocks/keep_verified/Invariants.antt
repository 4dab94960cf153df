use Rattle.std.proofs.Common.{◌≤◌, length}
use Rattle.get_read.specs.Blocks.{AreSifted}
use Rattle.get_read.proofs.blocks.keep_verified.Given as goal

-- the blocks from the place on were compared
abbrev pub invariant-loop-place : goal.invariant-loop-place
invariant-loop-place l = record {
  within : l.place ≤ length l.initial.found.rows.items;
  sifted : AreSifted l.size l.place l.initial.found l.found l.initial.whys l.whys;
}

abbrev pub decreases-loop-place : goal.decreases-loop-place
decreases-loop-place l = l.place
