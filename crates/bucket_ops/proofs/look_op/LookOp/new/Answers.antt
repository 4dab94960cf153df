use Rattle.bucket_ops.proofs.BeginLemmas.{begins}
use Rattle.bucket_ops.proofs.look_op.LookOp.new.Goals as goal

pub returns-in-HeadBucket-clause-begins : goal.returns-in-HeadBucket-clause-begins
returns-in-HeadBucket-clause-begins c = begins _ _ _ _ c.of.result c.of.ensures

pub returns-in-GetVersioning-clause-begins : goal.returns-in-GetVersioning-clause-begins
returns-in-GetVersioning-clause-begins c = begins _ _ _ _ c.of-in-GetVersioning.result c.of-in-GetVersioning.ensures
