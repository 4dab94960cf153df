use Rattle.std.proofs.Common.{◌≡◌, ◌<◌, ℕ, [], length, slice_index_or}
use Rattle.term_gate.specs.Formats.{format_of}
use Rattle.term_gate.specs.Table.{IsCanonical}
use Rattle.term_gate.specs.Writing.{file_for}
use Rattle.term_gate.proofs.writing.make_files.Given as goal

-- the files of the drives so far
abbrev pub invariant-loop-index : goal.invariant-loop-index
invariant-loop-index l = record {
  counted : length l.files.items ≡ l.index;
  each : (k : ℕ) → k < l.index → slice_index_or l.files.items k [] ≡ file_for l.set k l.term;
  canonical : (k : ℕ) → k < l.index → IsCanonical (format_of l.set k l.term);
}
