use Rattle.std.proofs.Common.{◌≡◌, ◌≤◌, ◌++◌, ℕ, List, length, drop, map, string_bytes}
use Rattle.std.specs.Prelude.{Bool, false, true, slice_index_or}
use Rattle.drive_file.specs.Asks.{AskedOnly, IsMaking, makes}
use Rattle.drive_file.proofs.folders.make.Given as goal

-- the folders below the place were made, and what the rest makes is what all make
abbrev pub invariant-loop-place : goal.invariant-loop-place
invariant-loop-place g l = record {
  made : List Bool;
  long : length made ≡ l.place;
  within : l.first ≤ length l.inner;
  outermost : (place : ℕ) → slice_index_or made place false ≡ true → l.first ≤ place;
  calls : (rest : List Bool) → makes (map string_bytes (drop l.place l.inner)) rest (g.F.Folder.calls l.system)
      ≡ makes (map string_bytes l.inner) (made ++ rest) (g.F.Folder.calls l.initial.system);
  only : AskedOnly (IsMaking (map string_bytes l.inner)) (g.F.Folder.calls l.initial.system) (g.F.Folder.calls l.system);
}
