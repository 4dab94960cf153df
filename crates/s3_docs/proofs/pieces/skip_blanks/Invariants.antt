use Rattle.std.proofs.Common.{◌≡◌, ◌≤◌, length, true}
use Rattle.s3_docs.specs.Machine.{State, is_gap}
use Rattle.s3_docs.specs.Reads.{Reads}
use Rattle.s3_docs.proofs.pieces.skip_blanks.Given as goal

abbrev pub invariant-loop-rest : goal.invariant-loop-rest
invariant-loop-rest l = record {
  shorter : length l.rest ≤ length l.text;
  reads : (gap : State) → is_gap gap ≡ true → Reads gap l.text gap l.rest;
}

abbrev pub decreases-loop-rest : goal.decreases-loop-rest
decreases-loop-rest l = length l.rest
