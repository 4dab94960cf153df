use Rattle.std.proofs.Common.{length, []}
use Rattle.s3_docs.specs.Machine.{Between}
use Rattle.s3_docs.specs.Reads.{Reads}
use Rattle.s3_docs.proofs.complete.parts.Given as goal

abbrev pub invariant-loop-parts : goal.invariant-loop-parts
invariant-loop-parts l = Reads (Between []) l.text (Between l.parts.items) l.rest

abbrev pub decreases-loop-parts : goal.decreases-loop-parts
decreases-loop-parts l = length l.rest
