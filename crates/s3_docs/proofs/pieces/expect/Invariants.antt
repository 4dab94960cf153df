use Rattle.std.proofs.Common.{◌≤◌, length, drop}
use Rattle.s3_docs.specs.Machine.{State, due}
use Rattle.s3_docs.specs.Reads.{Reads}
use Rattle.s3_docs.proofs.pieces.expect.Given as goal

abbrev pub invariant-loop-byte : goal.invariant-loop-byte
invariant-loop-byte l = record {
  shorter : length l.rest ≤ length l.text;
  reads : (next : State) → Reads (due l.literal next) l.text (due (drop l.byte-index l.literal) next) l.rest;
}
