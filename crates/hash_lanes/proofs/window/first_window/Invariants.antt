use Rattle.std.proofs.Common.{◌≡◌, ℕ, ◌<◌, ◌*◌, length}
use Rattle.sha2.specs.Sha256.{word_at}
use Rattle.hash_lanes.specs.Lanes.{lane_at, one_of}
use Rattle.hash_lanes.proofs.window.first_window.Given as goal

abbrev pub invariant-fill : goal.invariant-fill
invariant-fill l = (length l.window ≡ 16)
    × ((j k : ℕ) → j < 4 → k < l.i → lane_at l.window k j ≡ word_at (one_of l.a l.b l.c l.d j) (4 * k))
