use Rattle.std.proofs.Common.{cond, length}
use Rattle.s3_docs.specs.declared.prologue.Root.{Root}
use Rattle.s3_docs.specs.Machine.{Declaration, Mark}
use Rattle.s3_docs.specs.Reads.{Reads}
use Rattle.s3_docs.proofs.prologue.declaration.Given as goal

abbrev pub invariant-loop-rest : goal.invariant-loop-rest
invariant-loop-rest l =
    (root : Root) → Reads (Declaration root) l.text (cond l.marked (Mark root) (Declaration root)) l.rest

abbrev pub decreases-loop-rest : goal.decreases-loop-rest
decreases-loop-rest l = length l.rest
