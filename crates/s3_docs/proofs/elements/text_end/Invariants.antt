use Rattle.std.proofs.Common.{ℕ, List, length, ◌≤◌}
use Rattle.s3_docs.specs.Machine.{Holder, Text}
use Rattle.s3_docs.specs.Reads.{Reads}
use Rattle.s3_docs.proofs.elements.text_end.Given as goal

abbrev pub invariant-loop-rest : goal.invariant-loop-rest
invariant-loop-rest l = record {
  shorter : length l.rest ≤ length l.text;
  reads : (holder : Holder) (name : List ℕ) → Reads (Text holder name) l.text (Text holder name) l.rest;
}

abbrev pub decreases-loop-rest : goal.decreases-loop-rest
decreases-loop-rest l = length l.rest
