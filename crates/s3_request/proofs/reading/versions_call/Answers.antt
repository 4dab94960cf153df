use Rattle.std.proofs.Common.{ap}
use Rattle.std.specs.Prelude.{Ok}
use Rattle.desk_base.specs.declared.call.Call.TheVariants as call
use Rattle.s3_request.specs.Pages.{versions_ask}
use Rattle.s3_request.specs.Refusing.{and_then}
use Rattle.s3_request.proofs.ReadingLemmas.{passes}
use Rattle.s3_request.proofs.reading.versions_call.Goals as goal

pub returns-in-Ok : goal.returns-in-Ok
returns-in-Ok c = ap (λ r. and_then r (λ page. Ok (call.ListVersions c.args.bucket page))) c.in-Ok.ensures

pub returns-in-Err : goal.returns-in-Err
returns-in-Err c = passes (versions_ask c.args.query.now) _ c.in-Err.fault c.in-Err.ensures
