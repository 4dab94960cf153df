use Rattle.std.proofs.Common.{◌≡◌, ◌<◌, ◌≤◌, ℕ, length, map, slice_index_or}
use Rattle.ostore.specs.Sharing.{IsShared}
use Rattle.ostore.proofs.sharing.share_each.Given as goal

-- the drives so far are shared, the others are as they were, and each leads to what it led to
abbrev pub invariant-loop-disk : goal.invariant-loop-disk
invariant-loop-disk g l = record {
  shared : (k : ℕ) (d : g.row.D.Denot) → k < l.disk-index → IsShared g.D.Drive (slice_index_or l.disks k d);
  others : (k : ℕ) (d : g.row.D.Denot) → l.disk-index ≤ k → slice_index_or l.disks k d ≡ slice_index_or l.initial.disks k d;
  roots : map g.D.Share.root l.disks ≡ map g.D.Share.root l.initial.disks;
}
