use Rattle.std.proofs.Common.{◌≡◌, ◌<◌, ◌≤◌, ℕ, length, slice_index_or}
use Rattle.std.specs.Int.{IsBitSet}
use Rattle.drive_base.specs.View.{OnlyRead, view}
use Rattle.register_core.specs.LaneWrites.{letter_at}
use Rattle.register_core.specs.Found.{found_at}
use Rattle.register_core.specs.Looks.{LaneIsRead}
use Rattle.file_access.proofs.EachLemmas.{AreGoodFrom}
use Rattle.register_core.proofs.lanes.read_lanes.Given as goal

-- the lanes so far were read, the letters of the others are good, those that are out stay, each lane was only read, and the others are as they were
abbrev pub invariant-loop-index : goal.invariant-loop-index
invariant-loop-index g l = let D = g.D.Drive in record {
  counted : length l.files.items ≡ l.index;
  long : length l.whys ≡ length l.initial.lanes;
  found : (k : ℕ) (d : g.row.D.Denot) → k < l.index
      → LaneIsRead l.most l.name (found_at l.files.items k) (letter_at l.whys k) (IsBitSet l.out k)
      (D.tells (slice_index_or l.initial.lanes k d)) (D.files (slice_index_or l.initial.lanes k d))
      (D.count (slice_index_or l.initial.lanes k d)) (D.count (slice_index_or l.lanes k d));
  good : AreGoodFrom l.index l.whys;
  stay : (k : ℕ) (d : g.row.D.Denot) → IsBitSet l.out k → slice_index_or l.lanes k d ≡ slice_index_or l.initial.lanes k d;
  read : (k : ℕ) (d : g.row.D.Denot) → OnlyRead (view D (slice_index_or l.initial.lanes k d)) (view D (slice_index_or l.lanes k d));
  others : (k : ℕ) (d : g.row.D.Denot) → l.index ≤ k → slice_index_or l.lanes k d ≡ slice_index_or l.initial.lanes k d;
}
