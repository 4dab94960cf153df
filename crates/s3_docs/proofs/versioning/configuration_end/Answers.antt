use Rattle.std.proofs.lemmas.Result.{err_from_is_err_and}
use Rattle.s3_docs.specs.Machine.{After, Versioning}
use Rattle.s3_docs.proofs.versioning.configuration_end.Goals as goal

pub returns-in_err-rest-in-Some-clause-stops : goal.returns-in_err-rest-in-Some-clause-stops
returns-in_err-rest-in-Some-clause-stops c =
    let p = err_from_is_err_and c.from_residual.result c.from_residual.ensures.1 in
    rw (p.1, p.2, c.in-Some.is) (c.in_err-rest-in-Some.ensures.stops (After (Versioning c.in-Some.value)))

pub returns-in_ok-rest-in-Some-clause-reads : goal.returns-in_ok-rest-in-Some-clause-reads
returns-in_ok-rest-in-Some-clause-reads c =
    rw c.in-Some.is (c.in_ok-rest-in-Some.ensures.reads (After (Versioning c.in-Some.value)))
