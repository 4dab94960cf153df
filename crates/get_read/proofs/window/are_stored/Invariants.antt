use Rattle.std.proofs.Common.{◌≡◌, ◌<◌, ℕ, [], slice_index_or}
use Rattle.shard_file.specs.Stripes.{piece}
use Rattle.get_read.proofs.window.are_stored.Given as goal

-- the digests so far are those that are stored
abbrev pub invariant-loop-place : goal.invariant-loop-place
invariant-loop-place l = (k : ℕ) → k < l.place → piece 32 l.stored k ≡ slice_index_or l.digests k []
