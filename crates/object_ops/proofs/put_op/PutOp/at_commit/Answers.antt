use Rattle.object_ops.proofs.put_op.PutOp.at_commit.Goals as goal

pub returns-in-Finish-clause-yes : goal.returns-in-Finish-clause-yes
returns-in-Finish-clause-yes c = λ yes. (c.in-Staging.work, c.in-Staging.is, c.in-Finish.is, c.succeeds.ensures.yes yes)
