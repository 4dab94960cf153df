use Rattle.std.proofs.Common.{◌≡◌, ◌++◌, take, drop}
use Rattle.s3_reply.specs.Asked.{path_part}
use Rattle.s3_reply.proofs.heading.without_query.Given as goal

abbrev pub invariant-loop-k : goal.invariant-loop-k
invariant-loop-k l = path_part l.target ≡ take l.k l.target ++ path_part (drop l.k l.target)
