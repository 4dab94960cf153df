use Rattle.std.proofs.Common.{◌≡◌, ℕ, ◌≤◌, length, ◌++◌, string_bytes}
use Rattle.drive_file.specs.Paths.{spelled, spelled_within}
use Rattle.drive_file.proofs.paths.spelling.Given as goal

-- what was written and the spelling of the rest are the name's
abbrev pub invariant-loop-rest : goal.invariant-loop-rest
invariant-loop-rest l = record {
  groups : ℕ;
  enough : length l.rest ≤ groups;
  written : string_bytes l.text ++ spelled_within groups l.rest ≡ spelled l.name;
}

abbrev pub decreases-loop-rest : goal.decreases-loop-rest
decreases-loop-rest l = length l.rest
