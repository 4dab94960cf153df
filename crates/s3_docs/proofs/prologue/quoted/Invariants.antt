use Rattle.std.proofs.Common.{length}
use Rattle.s3_docs.specs.declared.prologue.Root.{Root}
use Rattle.s3_docs.specs.Machine.{Quoted}
use Rattle.s3_docs.specs.Reads.{Reads}
use Rattle.s3_docs.proofs.prologue.quoted.Given as goal

abbrev pub invariant-loop-rest : goal.invariant-loop-rest
invariant-loop-rest l = (root : Root) → Reads (Quoted root l.quote) l.text (Quoted root l.quote) l.rest

abbrev pub decreases-loop-rest : goal.decreases-loop-rest
decreases-loop-rest l = length l.rest
