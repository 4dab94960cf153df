use Rattle.std.proofs.Common.{◌≡◌, ◌<◌, ℕ, slice_index}
use Rattle.get_read.proofs.blocks.are_data.Given as goal

-- the rows so far are those of their places
abbrev pub invariant-loop-place : goal.invariant-loop-place
invariant-loop-place l = (j : ℕ) → j < l.place → slice_index l.rows j ≡ j
