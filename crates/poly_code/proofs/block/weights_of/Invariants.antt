use Rattle.std.proofs.Common.{◌≡◌, ◌<◌, ℕ, length, slice_index}
use Rattle.poly_code.specs.Lagrange.{weight}
use Rattle.poly_code.proofs.block.weights_of.Given as goal

abbrev pub invariant-loop-index : goal.invariant-loop-index
invariant-loop-index l = (length l.weights ≡ 16) × ((i : ℕ) → i < l.index → slice_index l.weights i ≡ weight l.rows i l.point)
