use Rattle.std.proofs.Common.{arith}
use Rattle.hash_lanes.proofs.LaneLemmas.{IsWindow_filled}
use Rattle.hash_lanes.proofs.window.first_window.Goals as goal

pub returns : goal.returns
returns c j low =
    IsWindow_filled c.fill.window _ j c.fill.invariant.0 (λ k below. c.fill.invariant.1 j k low (omega arith))
