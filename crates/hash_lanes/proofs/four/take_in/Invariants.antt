use Rattle.std.proofs.Common.{◌≡◌, ℕ, ◌<◌}
use Rattle.sha2.specs.Sha256.{hash_after}
use Rattle.hash_lanes.specs.Lanes.{lane, one_of}
use Rattle.hash_lanes.proofs.four.take_in.Given as goal

abbrev pub invariant-chunks : goal.invariant-chunks
invariant-chunks l = (j : ℕ) → j < 4 → lane j l.hash ≡ hash_after (lane j l.fn.hash) (one_of l.a l.b l.c l.d j) l.i
