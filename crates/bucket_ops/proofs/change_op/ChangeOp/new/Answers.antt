use Rattle.bucket_ops.proofs.ChangeBeginLemmas.{make_begins, set_begins}
use Rattle.bucket_ops.proofs.change_op.ChangeOp.new.Goals as goal

pub returns-in-CreateBucket-clause-begins : goal.returns-in-CreateBucket-clause-begins
returns-in-CreateBucket-clause-begins c = make_begins _ _ _ c.make.result c.make.ensures

pub returns-in-PutVersioning-clause-begins : goal.returns-in-PutVersioning-clause-begins
returns-in-PutVersioning-clause-begins c = set_begins _ _ _ _ c.set_mode.result c.set_mode.ensures
