use Rattle.list_ops.proofs.BeginLemmas.{begins}
use Rattle.list_ops.proofs.page_op.PageOp.new.Goals as goal

pub returns-in-List2-clause-begins : goal.returns-in-List2-clause-begins
returns-in-List2-clause-begins c = begins _ _ _ c.of_keys.result c.of_keys.ensures

pub returns-in-ListVersions-clause-begins : goal.returns-in-ListVersions-clause-begins
returns-in-ListVersions-clause-begins c = begins _ _ _ c.of_versions.result c.of_versions.ensures
