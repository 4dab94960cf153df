use Rattle.std.proofs.Common.{◌≡◌, ◌<◌, ◌≤◌, ℕ, length, slice_index_or}
use Rattle.drive_base.specs.View.{view}
use Rattle.term_gate.specs.Reading.{why_at}
use Rattle.term_gate.specs.Writing.{DriveIsWritten, file_for}
use Rattle.term_gate.proofs.writing.write_formats.Given as goal

-- the drives so far were written or passed over, and the others are as they were
abbrev pub invariant-loop-index : goal.invariant-loop-index
invariant-loop-index g l = let D = g.D.Drive in record {
  long : length l.whys ≡ l.set.drives;
  each : (k : ℕ) (d : g.row.D.Denot) → k < l.index
      → DriveIsWritten (file_for l.set k l.term) l.term l.passed l.other k (why_at l.whys k) (view D (slice_index_or l.initial.disks k d))
      (view D (slice_index_or l.disks k d));
  others : (k : ℕ) (d : g.row.D.Denot) → l.index ≤ k → slice_index_or l.disks k d ≡ slice_index_or l.initial.disks k d;
}
