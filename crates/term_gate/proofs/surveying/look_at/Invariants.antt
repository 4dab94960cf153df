use Rattle.std.proofs.Common.{◌≡◌, ◌<◌, ℕ, length, slice_index_or}
use Rattle.term_gate.specs.Reading.{format_at, why_at}
use Rattle.term_gate.specs.Surveying.{IsSeen}
use Rattle.term_gate.specs.declared.seen.Seen.TheVariants as seen
use Rattle.term_gate.proofs.surveying.look_at.Given as goal

-- what was found on the drives so far
abbrev pub invariant-loop-index : goal.invariant-loop-index
invariant-loop-index l = record {
  counted : length l.seens.items ≡ l.index;
  each : (k : ℕ) → k < l.index → IsSeen l.set k (format_at l.reading.formats.items k) (why_at l.reading.whys k) (slice_index_or l.seens.items k seen.Absent);
}
