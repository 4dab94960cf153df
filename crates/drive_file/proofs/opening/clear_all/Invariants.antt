use Rattle.std.proofs.Common.{◌≡◌, drop, map, string_bytes}
use Rattle.drive_file.specs.Asks.{AskedOnly}
use Rattle.drive_file.specs.Opening.{IsEmptying, clears}
use Rattle.drive_file.proofs.opening.clear_all.Given as goal

-- what the rest clears is what all clear
abbrev pub invariant-loop-place : goal.invariant-loop-place
invariant-loop-place g l = record {
  calls : clears l.loose (map string_bytes (drop l.place l.entries)) (g.F.Folder.calls l.system) ≡ clears l.loose (map string_bytes l.entries) (g.F.Folder.calls l.initial.system);
  only : AskedOnly (IsEmptying l.loose) (g.F.Folder.calls l.initial.system) (g.F.Folder.calls l.system);
}
