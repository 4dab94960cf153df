use Rattle.object_ops.proofs.DeedOpLemmas.{begins}
use Rattle.object_ops.proofs.deed_op.DeedOp.new.Goals as goal

pub returns-in-Delete-clause-begins : goal.returns-in-Delete-clause-begins
returns-in-Delete-clause-begins c = begins _ _ _ _ c.of.result c.of.ensures

pub returns-in_ok-own-in-Create-clause-begins : goal.returns-in_ok-own-in-Create-clause-begins
returns-in_ok-own-in-Create-clause-begins c = begins _ _ _ _ c.of-in-Create.result c.of-in-Create.ensures

pub returns-in-Abort-clause-begins : goal.returns-in-Abort-clause-begins
returns-in-Abort-clause-begins c = begins _ _ _ _ c.of-in-Abort.result c.of-in-Abort.ensures
