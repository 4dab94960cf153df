use Rattle.std.proofs.Common.{◌≡◌, ◌≤◌, ℕ}
use Rattle.drive_base.specs.DriveSet.{count_in}
use Rattle.drive_base.proofs.drive_set.DriveSet.count.Given as goal

-- the count is that of the drives before the index
pub record Counted (mask count index drives : ℕ) : Type 0 where
  pub within : index ≤ drives
  pub counted : count ≡ count_in mask index
  pub few : count ≤ index

abbrev pub invariant-loop-index : goal.invariant-loop-index
invariant-loop-index l = Counted l.self l.count l.index l.drives
