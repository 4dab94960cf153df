use Rattle.drive_trails.proofs.PlacingLemmas.{staged_data_is_in_place}
use Rattle.drive_trails.proofs.laws.trail_law.Goals as goal

pub returns : goal.returns
returns c = record { placed = staged_data_is_in_place }
