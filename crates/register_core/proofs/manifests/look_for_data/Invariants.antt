use Rattle.std.proofs.Common.{◌≡◌, ◌<◌, ◌≤◌, ℕ, length, slice_index_or}
use Rattle.std.specs.Int.{IsBitSet}
use Rattle.drive_base.specs.View.{OnlyRead, view}
use Rattle.register_core.specs.LaneWrites.{letter_at}
use Rattle.register_core.specs.Manifests.{ManifestLetter}
use Rattle.file_access.proofs.EachLemmas.{AreGoodFrom}
use Rattle.register_core.proofs.manifests.look_for_data.Given as goal

-- the drives so far have their letters, the letters of the others are good, those that are out stay, each drive was only read, and the others are as they were
abbrev pub invariant-loop-disk : goal.invariant-loop-disk
invariant-loop-disk g l = let D = g.D.Drive in record {
  at : l.index ≡ l.disk-index;
  long : length l.whys ≡ l.set.drives;
  letters : (k : ℕ) (d : g.row.D.Denot) → k < l.disk-index
      → ManifestLetter l.set l.adds (letter_at l.whys k) (IsBitSet l.set.out k)
      (D.tells (slice_index_or l.initial.disks k d)) (D.files (slice_index_or l.initial.disks k d))
      (D.count (slice_index_or l.initial.disks k d)) (D.count (slice_index_or l.disks k d));
  good : AreGoodFrom l.disk-index l.whys;
  stay : (k : ℕ) (d : g.row.D.Denot) → IsBitSet l.set.out k → slice_index_or l.disks k d ≡ slice_index_or l.initial.disks k d;
  read : (k : ℕ) (d : g.row.D.Denot) → OnlyRead (view D (slice_index_or l.initial.disks k d)) (view D (slice_index_or l.disks k d));
  others : (k : ℕ) (d : g.row.D.Denot) → l.disk-index ≤ k → slice_index_or l.disks k d ≡ slice_index_or l.initial.disks k d;
}
