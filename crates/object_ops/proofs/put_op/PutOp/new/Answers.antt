use Rattle.object_ops.proofs.PutOpLemmas.{begins}
use Rattle.object_ops.proofs.put_op.PutOp.new.Goals as goal

pub returns-in_ok-target-in-Put-clause-begins : goal.returns-in_ok-target-in-Put-clause-begins
returns-in_ok-target-in-Put-clause-begins c = begins _ _ _ _ _ c.of.result c.of.ensures
