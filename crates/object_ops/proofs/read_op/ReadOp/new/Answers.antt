use Rattle.object_ops.proofs.ReadLemmas.{begins}
use Rattle.object_ops.proofs.read_op.ReadOp.new.Goals as goal

pub returns-in-Head-clause-begins : goal.returns-in-Head-clause-begins
returns-in-Head-clause-begins c = begins _ _ _ _ _ _ c.of.result c.of.ensures

pub returns-in-Get-clause-begins : goal.returns-in-Get-clause-begins
returns-in-Get-clause-begins c = begins _ _ _ _ _ _ c.of-in-Get.result c.of-in-Get.ensures
