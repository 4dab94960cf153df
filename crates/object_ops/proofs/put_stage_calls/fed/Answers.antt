use Rattle.object_ops.proofs.PutNext.{may_fill}
use Rattle.object_ops.proofs.put_stage_calls.fed.Goals as goal

pub fill-requires-clause-may : goal.fill-requires-clause-may
fill-requires-clause-may g c = let work = c.in-Staging.work in may_fill work.stage work.next work.is_next c.in-Fill.is
