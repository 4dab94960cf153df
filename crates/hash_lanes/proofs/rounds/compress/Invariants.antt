use Rattle.std.proofs.Common.{ℕ, ◌<◌, ◌*◌}
use Rattle.sha2.specs.Sha256.{IsRoundsAt}
use Rattle.hash_lanes.specs.Lanes.{lane, one_of, window_of}
use Rattle.hash_lanes.proofs.rounds.compress.Given as goal

abbrev pub invariant-turns : goal.invariant-turns
invariant-turns l = (j : ℕ) → j < 4
    → IsRoundsAt (one_of l.a l.b l.c l.d j) (lane j l.hash) (window_of j l.window) (lane j l.v) (16 * l.turn)
