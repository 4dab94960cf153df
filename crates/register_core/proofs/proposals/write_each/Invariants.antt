use Rattle.std.proofs.Common.{◌≡◌, ◌+◌, ◌<◌, ◌≤◌, ℕ, length, slice_index_or}
use Rattle.drive_base.specs.View.{GoesOn, view}
use Rattle.register_core.specs.LaneWrites.{OnLane, letter_at}
use Rattle.register_core.proofs.proposals.write_each.Given as goal

-- the lanes so far are written, and the others are as they were
abbrev pub invariant-loop-lane : goal.invariant-loop-lane
invariant-loop-lane g l = let D = g.D.Drive in record {
  at : l.index ≡ l.lane-index;
  counted : length l.whys ≡ length l.letters;
  later : l.initial.count ≤ l.count;
  few : l.count ≤ l.initial.count + l.lane-index;
  each : (k : ℕ) (d : g.row.D.Denot) → k < l.lane-index
      → OnLane D l.out l.passed l.writing.name.now l.writing.bytes.now l.writing.term l.initial.count l.count l.letters k (letter_at l.whys k)
      (slice_index_or l.initial.lanes k d) (slice_index_or l.lanes k d);
  goes_on : (k : ℕ) (d : g.row.D.Denot) → k < l.lane-index → GoesOn (view D (slice_index_or l.initial.lanes k d)) (view D (slice_index_or l.lanes k d));
  others : (k : ℕ) (d : g.row.D.Denot) → l.lane-index ≤ k → slice_index_or l.lanes k d ≡ slice_index_or l.initial.lanes k d;
}
