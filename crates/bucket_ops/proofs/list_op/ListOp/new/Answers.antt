use Rattle.std.proofs.Common.{zero, refl, arith}
use Rattle.bucket_ops.specs.Seeking.{sheet_of}
use Rattle.bucket_ops.proofs.ListBeginLemmas.{begins_at_page}
use Rattle.bucket_ops.proofs.list_op.ListOp.new.Goals as goal

pub returns-clause-begins : goal.returns-clause-begins
returns-clause-begins c =
    (zero, omega arith, record { none = refl; listed = begins_at_page (sheet_of c.in_ok-work.work) c.in_ok-work.ensures })
