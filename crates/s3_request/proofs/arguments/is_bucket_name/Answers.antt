use Rattle.std.proofs.Common.{ap, ◌∙◌}
use Rattle.s3_request.specs.Names.{is_bucket_name}
use Rattle.s3_request.proofs.IdLemmas.{name_tested, no_name}
use Rattle.s3_request.proofs.arguments.is_bucket_name.Goals as goal

pub returns-in-Ok : goal.returns-in-Ok
returns-in-Ok c = name_tested c.check_name.result c.in-Ok.name.now c.check_name.ensures ∙ ap is_bucket_name c.in-Ok.ensures.cases.0

pub returns-in-Err : goal.returns-in-Err
returns-in-Err c = no_name c.args.name.now c.in-Err.ensures.cases.0
