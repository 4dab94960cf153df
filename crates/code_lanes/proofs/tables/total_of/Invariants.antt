use Rattle.std.proofs.Common.{◌≡◌, ℕ, slice_index}
use Rattle.gf256.specs.Field.{product}
use Rattle.code_lanes.specs.Sums.{sum_of_products}
use Rattle.code_lanes.proofs.tables.total_of.Given as goal

abbrev pub invariant-loop-weight : goal.invariant-loop-weight
invariant-loop-weight l = (x : ℕ) → product l.total x ≡ sum_of_products (slice_index l.weights) (λ _. x) l.weight-index
