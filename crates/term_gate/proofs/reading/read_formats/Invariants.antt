use Rattle.std.proofs.Common.{◌≡◌, ◌<◌, ◌≤◌, ℕ, length, slice_index_or}
use Rattle.drive_base.specs.View.{OnlyRead, view}
use Rattle.term_gate.specs.Reading.{DriveIsRead, format_at, why_at}
use Rattle.file_access.proofs.EachLemmas.{AreGoodFrom}
use Rattle.term_gate.proofs.reading.read_formats.Given as goal

-- the drives so far were read, the letters of the others are good, each drive was only read, and the others are as they were
abbrev pub invariant-loop-index : goal.invariant-loop-index
invariant-loop-index g l = let D = g.D.Drive in record {
  counted : length l.formats.items ≡ l.index;
  long : length l.whys ≡ length l.initial.disks;
  found : (k : ℕ) (d : g.row.D.Denot) → k < l.index
      → DriveIsRead (format_at l.formats.items k) (why_at l.whys k) (view D (slice_index_or l.initial.disks k d)) (view D (slice_index_or l.disks k d));
  good : AreGoodFrom l.index l.whys;
  only : (k : ℕ) (d : g.row.D.Denot) → OnlyRead (view D (slice_index_or l.initial.disks k d)) (view D (slice_index_or l.disks k d));
  others : (k : ℕ) (d : g.row.D.Denot) → l.index ≤ k → slice_index_or l.disks k d ≡ slice_index_or l.initial.disks k d;
}
