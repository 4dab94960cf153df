use Rattle.s3_request.specs.Query.{is_unserved}
use Rattle.s3_request.proofs.QueryLemmas.{NoneBelow}
use Rattle.s3_request.proofs.query.Query.asks_unserved.Given as goal

abbrev pub invariant-loop-i : goal.invariant-loop-i
invariant-loop-i l = NoneBelow is_unserved l.self l.i
