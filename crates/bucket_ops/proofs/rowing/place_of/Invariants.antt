use Rattle.std.proofs.Common.{ℕ, ◌<◌, slice_index_or}
use Rattle.call_types.specs.declared.reply.BucketRow.{BucketRow}
use Rattle.drive_base.specs.Names.{IsBefore}
use Rattle.bucket_ops.proofs.rowing.place_of.Given as goal

-- each row before the place stands before the name
abbrev pub invariant-loop-place : goal.invariant-loop-place
invariant-loop-place l = (k : ℕ) (d : BucketRow) → k < l.place → IsBefore (slice_index_or l.rows k d).name l.name
