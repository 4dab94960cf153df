use Rattle.std.proofs.Common.{◌≡◌, ◌<◌, ◌≤◌, ◌-◌, length, take}
use Rattle.get_read.specs.Causes.{body_length}
use Rattle.get_read.proofs.places.part_with.Given as goal

-- all parts before this one end at or before the place
abbrev pub invariant-loop-place : goal.invariant-loop-place
invariant-loop-place l = record {
  inside : l.place < length l.parts;
  begins : l.begin ≡ body_length (take l.place l.parts);
  begun : l.begin ≤ l.at;
  ahead : l.at < body_length l.parts;
}

abbrev pub decreases-loop-place : goal.decreases-loop-place
decreases-loop-place l = length l.parts - l.place
