use Rattle.std.proofs.Common.{◌≡◌, ℕ, ◌+◌, ◌<◌}
use Rattle.std.specs.Prelude.{slice_index}
use Rattle.bucket_book.proofs.name.has_two_dots.Given as goal

-- no two dots before this place
abbrev pub invariant-loop-at : goal.invariant-loop-at
invariant-loop-at l = (k : ℕ) → k + 1 < l.at → slice_index l.name k ≡ 46 → slice_index l.name (k + 1) ≡ 46 → ⊥
