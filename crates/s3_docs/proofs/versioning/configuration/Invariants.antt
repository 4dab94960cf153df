use Rattle.std.proofs.Common.{length, None}
use Rattle.s3_docs.specs.Machine.{Configuration, Inside}
use Rattle.s3_docs.specs.Reads.{Reads}
use Rattle.s3_docs.proofs.versioning.configuration.Given as goal

abbrev pub invariant-loop-tag : goal.invariant-loop-tag
invariant-loop-tag l = Reads (Inside (Configuration None)) l.text (Inside (Configuration l.known)) l.rest

abbrev pub decreases-loop-tag : goal.decreases-loop-tag
decreases-loop-tag l = length l.rest
