use Rattle.std.specs.Str.{bytes_eq}
use Rattle.s3_request.proofs.QueryLemmas.{NoneBelow}
use Rattle.s3_request.proofs.query.Query.value_of.Given as goal

abbrev pub invariant-loop-i : goal.invariant-loop-i
invariant-loop-i l = NoneBelow (bytes_eq l.name) l.self l.i
