use Rattle.std.proofs.Common.{List, length, ◌≤◌, None}
use Rattle.call_types.specs.declared.version.PartRef.{PartRef}
use Rattle.s3_docs.specs.Machine.{Part, Inside}
use Rattle.s3_docs.specs.Reads.{Reads}
use Rattle.s3_docs.proofs.part.part.Given as goal

abbrev pub invariant-loop-tag : goal.invariant-loop-tag
invariant-loop-tag l = record {
  shorter : length l.rest ≤ length l.text;
  reads : (parts : List PartRef) → Reads (Inside (Part parts None None)) l.text (Inside (Part parts l.fields.number l.fields.md5)) l.rest;
}

abbrev pub decreases-loop-tag : goal.decreases-loop-tag
decreases-loop-tag l = length l.rest
