use Rattle.std.proofs.Common.{sym, subst}
use Rattle.s3_request.specs.Refusing.{Gives}
use Rattle.s3_request.specs.Reads.{asked_of, bucket_call}
use Rattle.s3_request.proofs.reading.bucket_call.Goals as goal

pub returns-in-ListVersions : goal.returns-in-ListVersions
returns-in-ListVersions c = λ limit.
    subst (λ r. Gives (bucket_call (asked_of c.args.head.now c.args.query.now limit) c.args.bucket r) c.versions_call.result) (sym c.in-ListVersions.is)
    c.versions_call.ensures
