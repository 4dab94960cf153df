use Rattle.bucket_ops.proofs.NameLemmas.{name_is_utf8}
use Rattle.bucket_ops.proofs.look_op.LookOp.of.Goals as goal

pub bucket_name-requires : goal.bucket_name-requires
bucket_name-requires c = name_is_utf8 c.args.bucket.now c.requires
