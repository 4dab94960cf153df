use Rattle.std.proofs.Common.{◌≡◌, drop, map, string_bytes}
use Rattle.drive_file.specs.Asks.{AskedOnly, IsSyncing, syncs}
use Rattle.drive_file.proofs.folders.sync.Given as goal

-- what the rest syncs is what all sync
abbrev pub invariant-loop-place : goal.invariant-loop-place
invariant-loop-place g l = record {
  calls : syncs (map string_bytes (drop l.place l.folders)) (g.F.Folder.calls l.system)
      ≡ syncs (map string_bytes l.folders) (g.F.Folder.calls l.initial.system);
  only : AskedOnly (IsSyncing (map string_bytes l.folders)) (g.F.Folder.calls l.initial.system) (g.F.Folder.calls l.system);
}
