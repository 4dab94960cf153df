use Rattle.std.proofs.Common.{◌≡◌, ℕ, ◌≤◌, length, ◌++◌, map, string_bytes}
use Rattle.drive_file.specs.Paths.{inner_folders, inner_within}
use Rattle.drive_file.proofs.paths.folders_of.Given as goal

-- the folders that were listed and those of the rest are the name's
abbrev pub invariant-loop-rest : goal.invariant-loop-rest
invariant-loop-rest l = record {
  groups : ℕ;
  enough : length l.rest ≤ groups;
  listed : map string_bytes l.folders.items ++ inner_within groups (string_bytes l.text) l.rest ≡ inner_folders l.folder l.name;
}

abbrev pub decreases-loop-rest : goal.decreases-loop-rest
decreases-loop-rest l = length l.rest
