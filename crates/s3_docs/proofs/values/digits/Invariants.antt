use Rattle.std.proofs.Common.{length, ◌≤◌}
use Rattle.s3_docs.specs.Machine.{Holder, Digits}
use Rattle.s3_docs.specs.Reads.{Reads}
use Rattle.s3_docs.proofs.values.digits.Given as goal

abbrev pub invariant-loop-rest : goal.invariant-loop-rest
invariant-loop-rest l = record {
  shorter : length l.rest ≤ length l.text;
  count : l.count ≤ 5;
  value : l.value ≤ 10000;
  reads : (holder : Holder) → Reads (Digits holder 0 0) l.text (Digits holder l.count l.value) l.rest;
}

abbrev pub decreases-loop-rest : goal.decreases-loop-rest
decreases-loop-rest l = length l.rest
