use Rattle.std.proofs.Common.{◌<◌, ℕ}
use Rattle.serve_loop.specs.Exchanges.{ClosesAt}
use Rattle.serve_loop.proofs.manner.lists_close.Given as goal

-- the token stands at none of the places so far
abbrev pub invariant-loop-i : goal.invariant-loop-i
invariant-loop-i l = (k : ℕ) → k < l.i → ¬ (ClosesAt l.fn.value k)
